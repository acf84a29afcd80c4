-- `library_calls::run_words::read::kept_count_of` meets its contract. Assumes nothing.
use Rattle.std.specs.Prelude.{◌≡◌, ◌≤◌}
use Rattle.laws.specs.Loops.{set_below}
use Rattle.words.specs.Layout.{word, kept_count_at_of}
use Rattle.library_calls.proofs.run_words.read.kept_count_of.Given as goal

abbrev pub invariant-loop-p : goal.invariant-loop-p
invariant-loop-p l = (l.p ≤ l.n) × (l.kept_count ≡ set_below l.p (λ q. word l.w (kept_count_at_of q)) l.initial.kept_count)
