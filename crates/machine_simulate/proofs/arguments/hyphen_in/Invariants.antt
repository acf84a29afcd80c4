-- `machine_simulate::arguments::hyphen_in` meets its contract. The loop's invariant: the first hyphen of the bytes passed.
-- Assumes nothing.
use Rattle.std.specs.Prelude.{◌≡◌, ◌-◌, ◌≤◌}
use Rattle.laws.specs.Basics.{arith, length, get_or, rules}
use Rattle.laws.specs.Loops.{iter, iter_none, iter_more}
use Rattle.machine_simulate.specs.Arguments.{hyphen_or, hyphen_in_of}
use Rattle.machine_simulate.proofs.arguments.hyphen_in.Given as goal

abbrev pub invariant-loop-i : goal.invariant-loop-i
invariant-loop-i l = (l.i ≤ l.size) × (l.size ≡ length l.word) × (l.place ≤ l.size) × (l.place ≡ iter l.i (λ k p. hyphen_or (length l.word) k (get_or l.word k 0) p) (length l.word))

abbrev pub decreases-loop-i : goal.decreases-loop-i
decreases-loop-i l = l.size - l.i
