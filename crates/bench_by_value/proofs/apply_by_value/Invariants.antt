-- `bench_by_value::apply_by_value` meets its contract. Assumes nothing.
use Rattle.std.specs.Prelude.{◌-◌, ◌*◌}
use Rattle.laws.specs.Basics.{length}
use Rattle.bench_by_value.proofs.Counting.{SoFar}
use Rattle.bench_by_value.proofs.apply_by_value.Given as goal

abbrev pub invariant-loop-run : goal.invariant-loop-run
invariant-loop-run l = SoFar l.initial.run l.trace l.run l.accepted l.taken

abbrev pub decreases-loop-run : goal.decreases-loop-run
decreases-loop-run l = length l.trace - 4 * l.taken
