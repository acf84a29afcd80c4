-- `replay::drive` meets its contract: the loop goes through states of the machine, and ends where it stops.
-- Assumes nothing.
use Rattle.laws.specs.Basics.{length}
use Rattle.machine_replay.specs.Standing.{state_of}
use Rattle.machine_replay.proofs.{Ending.left, Driving.Driven}
use Rattle.replay.proofs.drive.Given as goal

abbrev pub invariant-loop-source : goal.invariant-loop-source
invariant-loop-source g l =
    Driven (length l.fn.input) (length l.fn.out) l.words l.memory l.input l.out l.request

abbrev pub decreases-loop-source : goal.decreases-loop-source
decreases-loop-source g l = left (state_of l.words l.memory l.input l.out)
