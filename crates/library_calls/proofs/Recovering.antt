-- What a recovery leaves is a state of 1 to 16 processes whose causes have 8 bits: it keeps nothing that was not kept before.
-- Assumes nothing.
use Rattle.std.specs.Prelude.{◌≡◌}
use Rattle.laws.specs.Basics.{true, List, ℕ}
use Rattle.model.specs.declared.Run.{Run}
use Rattle.model.specs.{Steps.not_lost, Steps.recovered, Steps.recover_state, Sound.sound, Refusals.recover_refusal}
use Rattle.whole_runs.specs.Outcomes.{recover_outcome}
use Rattle.library_calls.proofs.{run_words.Causes.Small, run_words.Causes.small_messages, run_words.Causes.small_disk, Changing.either_run}
use Rattle.library_calls.proofs.Keeping.{few_chosen, kept_few, small_processes}

pub recover_small : (s : Run) → sound s ≡ true → (F : ℕ) (deleted line : List ℕ) → Small s → Small (recover_outcome s F deleted line).run
unfolding recover_outcome recover_state recovered not_lost
recover_small s whole F deleted line small = either_run Small (recover_refusal s F deleted line) _ _ (λ r. small)
    (small_disk _ (small_messages _ (small_processes s.count (recovered s F) s small (λ p lt. few_chosen _ _ (few_chosen _ _ (kept_few s whole small p lt)))) _ _) _)
