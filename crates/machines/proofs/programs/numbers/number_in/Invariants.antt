-- `machines::programs::numbers::number_in` meets its contract. The loop's invariant: the number that the first i digits are.
-- Assumes nothing.
use Rattle.std.specs.Prelude.{◌≡◌, ◌-◌, ◌≤◌}
use Rattle.laws.specs.Basics.{Some, length, get_or}
use Rattle.laws.specs.Loops.{iter}
use Rattle.machines.specs.programs.Numbers.{grown, stands_for}
use Rattle.machines.proofs.programs.numbers.number_in.Given as goal

abbrev pub invariant-loop-i : goal.invariant-loop-i
invariant-loop-i l = (l.i ≤ length l.word) × (l.value ≤ 4294967297) × (l.value ≡ stands_for (iter l.i (λ k v. grown v (get_or l.word k 0)) (Some 0)))

abbrev pub decreases-loop-i : goal.decreases-loop-i
decreases-loop-i l = length l.word - l.i
