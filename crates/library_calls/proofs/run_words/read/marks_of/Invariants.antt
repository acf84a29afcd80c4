-- `library_calls::run_words::read::marks_of` meets its contract. Assumes nothing.
use Rattle.std.specs.Prelude.{◌≡◌, ◌≤◌}
use Rattle.laws.specs.Loops.{set_below}
use Rattle.words.specs.Layout.{mark_in}
use Rattle.library_calls.proofs.run_words.read.marks_of.Given as goal

abbrev pub invariant-loop-p : goal.invariant-loop-p
invariant-loop-p l = (l.p ≤ l.n) × (l.sent ≡ set_below l.p (mark_in l.w) l.initial.sent)
