-- `library_trials::most_kept` meets its contract.
-- Assumes nothing.
use Rattle.std.specs.Prelude.{◌≡◌}
use Rattle.words.specs.Layout.{word, kept_count_at_of}
use Rattle.theory_recording.specs.spacing.Spacing.{greatest_below}
use Rattle.library_trials.proofs.most_kept.Given as goal

abbrev pub invariant-loop-p : goal.invariant-loop-p
invariant-loop-p l = l.most ≡ greatest_below l.p (λ q. word l.w (kept_count_at_of q))
