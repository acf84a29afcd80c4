-- `record::drive` meets its contract: the loop goes through states of the machine, and ends where it stops. Assumes nothing.
use Rattle.machines.proofs.Driving.{Driven}
use Rattle.machine_record.specs.{Machine.machine, Lent.state_of, Lent.place_of}
use Rattle.machine_record.proofs.{Ranks.machine_ends}
use Rattle.record.proofs.drive.Given as goal

abbrev pub invariant-loop-source : goal.invariant-loop-source
invariant-loop-source g l =
    Driven machine (state_of l.memory l.words l.input l.out l.lines) (place_of l.memory) l.input l.out l.request

abbrev pub decreases-loop-source : goal.decreases-loop-source
decreases-loop-source g l = machine_ends.left (state_of l.memory l.words l.input l.out l.lines)
