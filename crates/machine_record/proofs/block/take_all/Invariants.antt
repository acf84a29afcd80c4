-- `machine_record::block::take_all` meets its contract: so far the records in front of a place are taken. Assumes nothing.
use Rattle.std.specs.Prelude.{◌≡◌, ◌+◌, ◌-◌, ◌≤◌}
use Rattle.laws.specs.Basics.{refl, ◌∙◌, arith, length, rules}
use Rattle.words.specs.Layout.{run_of}
use Rattle.machine_record.proofs.Blocks.{SoFar, none_so_far, event_at, one_more, all_so_far}
use Rattle.machine_record.proofs.block.take_all.Given as goal

abbrev pub invariant-loop-at : goal.invariant-loop-at
invariant-loop-at l = SoFar (record { run = run_of l.initial.w; left = l.left; done = l.done }) l.block (length l.initial.out) (length l.initial.lines) (run_of l.w) l.t l.at l.out l.lines × (length l.w ≡ length l.initial.w)

abbrev pub decreases-loop-at : goal.decreases-loop-at
decreases-loop-at l = length l.block - l.at
