-- `machine_record::calls::perform` meets its contract: by the cases of the event. Assumes nothing.
use Rattle.laws.specs.Basics.{rules}
use Rattle.machine_record.proofs.calls.perform.Goals as goal

pub returns-in-Checkpoint : goal.returns-in-Checkpoint
returns-in-Checkpoint c =
    rw c.in-Checkpoint.is c.checkpoint.ensures

pub returns-in-Send : goal.returns-in-Send
returns-in-Send c =
    rw c.in-Send.is c.send.ensures

pub returns-in-Deliver : goal.returns-in-Deliver
returns-in-Deliver c =
    rw c.in-Deliver.is c.deliver.ensures

pub returns-in-Lose : goal.returns-in-Lose
returns-in-Lose c =
    rw c.in-Lose.is c.lose.ensures

pub returns-in-Recover : goal.returns-in-Recover
returns-in-Recover c =
    rw c.in-Recover.is c.recover.ensures
