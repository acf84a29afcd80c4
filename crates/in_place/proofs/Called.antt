-- What lists of calls in place leave: the words stand for the state after the calls, and unused places stay zero from a start on.
-- Assumes nothing.
use Rattle.std.specs.Prelude.{◌≡◌, ◌∷◌}
use Rattle.laws.specs.Basics.{◌∙◌, ap, List, [], ℕ}
use Rattle.model.specs.declared.Run.{Run}
use Rattle.whole_runs.specs.Calls.{Call, state_after}
use Rattle.words.specs.{Clean.Clean, Layout.run_of}
use Rattle.in_place.specs.{Called.CalledAll, Called.CleanWholeRuns, Starting.start_outcome_in, Starting.start_words}
use Rattle.in_place.proofs.Starting.{start_run, start_clean}

pub run_after : (w : List ℕ) (calls : List Call) (v : List ℕ) → CalledAll w calls v → run_of v ≡ state_after (run_of w) calls
unfolding CalledAll state_after
run_after w [] v h = ap run_of h
run_after w (c ∷ calls) v h = run_after h.0 calls v h.2 ∙ ap (λ (s : Run). state_after s calls) h.1.run

pub clean_after : (w : List ℕ) (calls : List Call) (v : List ℕ) → CalledAll w calls v → Clean w → Clean v
unfolding CalledAll
clean_after w [] v h c = rw h c
clean_after w (d ∷ calls) v h c = clean_after h.0 calls v h.2 (h.1.leaves.clean c)

pub clean_whole_runs : CleanWholeRuns
unfolding CleanWholeRuns
clean_whole_runs w n block_counts long calls v h = (
  run_after (start_words w n block_counts) calls v h ∙ ap (λ (s : Run). state_after s calls) (start_run w n block_counts ∙ ap (λ (k : ℕ). (start_outcome_in k n block_counts).run) long),
  clean_after (start_words w n block_counts) calls v h (start_clean w n block_counts long),
)
