-- `bench_in_place::apply_all` meets its contract. Assumes nothing.
use Rattle.std.specs.Prelude.{◌≡◌, ◌-◌, ◌*◌}
use Rattle.laws.specs.Basics.{length}
use Rattle.model.specs.Sound.{sound}
use Rattle.whole_runs.specs.{WholeRuns.Reachable}
use Rattle.words.specs.Layout.{run_of}
use Rattle.in_place.specs.Left.{Leaves}
use Rattle.bench_by_value.proofs.Counting.{SoFar}
use Rattle.bench_in_place.proofs.apply_all.Given as goal

abbrev pub invariant-loop-part : goal.invariant-loop-part
invariant-loop-part l = SoFar (run_of l.initial.w) l.trace (run_of l.w) l.accepted l.taken × (l.still ≡ sound (run_of l.w)) × Reachable (run_of l.w) × (length l.deleted ≡ 512) × (length l.line ≡ 16) × Leaves l.initial.w l.w

abbrev pub decreases-loop-part : goal.decreases-loop-part
decreases-loop-part l = length l.trace - 4 * l.taken
