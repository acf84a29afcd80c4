-- `simulate::drive` meets its contract: the loop goes through states of the machine, and ends where it stops.
-- Assumes nothing.
use Rattle.machines.proofs.Driving.{Driven}
use Rattle.machine_simulate.specs.{Simulating.simulating, Words.state_of}
use Rattle.machine_simulate.proofs.{Ending.left}
use Rattle.simulate.proofs.drive.Given as goal

abbrev pub invariant-loop-source : goal.invariant-loop-source
invariant-loop-source g l =
    Driven simulating (state_of l.memory l.input l.out) 0 l.input l.out l.request

abbrev pub decreases-loop-source : goal.decreases-loop-source
decreases-loop-source g l = left (state_of l.memory l.input l.out)
