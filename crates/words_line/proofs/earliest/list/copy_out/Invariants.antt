-- The loop's invariant: what is copied so far is the copy of the first k elements.
use Rattle.std.specs.Prelude.{◌≡◌, ◌≤◌, ◌-◌}
use Rattle.laws.specs.Basics.{length}
use Rattle.words_line.specs.earliest.Copying.{copy_to}
use Rattle.words_line.proofs.earliest.list.copy_out.Given as goal

abbrev pub invariant-loop-k : goal.invariant-loop-k
invariant-loop-k l = (l.k ≤ length l.list) × (l.copied ≡ copy_to l.k l.list)

abbrev pub decreases-loop-k : goal.decreases-loop-k
decreases-loop-k l = length l.list - l.k
