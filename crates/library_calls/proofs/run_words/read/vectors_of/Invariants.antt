-- `library_calls::run_words::read::vectors_of` meets its contract. Assumes nothing.
use Rattle.std.specs.Prelude.{◌≡◌, ◌≤◌}
use Rattle.laws.specs.Loops.{set_below}
use Rattle.words.specs.Layout.{part_at, vector_in}
use Rattle.library_calls.proofs.run_words.read.vectors_of.Given as goal

abbrev pub invariant-loop-p : goal.invariant-loop-p
invariant-loop-p l = (l.p ≤ l.n) × (l.vectors ≡ set_below l.p (λ q. vector_in l.w (part_at q)) l.initial.vectors)
