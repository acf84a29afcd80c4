-- `console::drive` meets its contract: the loop goes through states of the machine, and ends where it stops. Assumes nothing.
use Rattle.machines.proofs.Driving.{Driven}
use Rattle.machine_console.specs.{Consoling.consoling, Lent.state_of, Lent.place_of}
use Rattle.machine_console.proofs.{Ending.consoling_ends}
use Rattle.console.proofs.drive.Given as goal

abbrev pub invariant-loop-source : goal.invariant-loop-source
invariant-loop-source g l =
    Driven consoling (state_of l.memory l.words l.input l.out) (place_of l.memory) l.input l.out l.request

abbrev pub decreases-loop-source : goal.decreases-loop-source
decreases-loop-source g l = consoling_ends.left (state_of l.memory l.words l.input l.out)
