-- `machine_console::calls::call` meets its contract. Assumes nothing.
use Rattle.laws.specs.Basics.{rules}
use Rattle.machine_console.proofs.{Replying.by_operation}
use Rattle.machine_console.proofs.calls.call.Goals as goal

pub returns-in-Checkpoint : goal.returns-in-Checkpoint
returns-in-Checkpoint c =
    by_operation _ _ _ _ c.in-Checkpoint.is (c.checkpoint.ensures _)

pub returns-in-Send : goal.returns-in-Send
returns-in-Send c =
    by_operation _ _ _ _ c.in-Send.is (c.send.ensures _ _)

pub returns-in-Deliver : goal.returns-in-Deliver
returns-in-Deliver c =
    by_operation _ _ _ _ c.in-Deliver.is (c.deliver.ensures _)

pub returns-in-Lose : goal.returns-in-Lose
returns-in-Lose c =
    by_operation _ _ _ _ c.in-Lose.is (c.lose.ensures _ _)

pub returns-in-Recover : goal.returns-in-Recover
returns-in-Recover c =
    by_operation _ _ _ _ c.in-Recover.is c.recover.ensures

pub returns-in-Line : goal.returns-in-Line
returns-in-Line c =
    by_operation _ _ _ _ c.in-Line.is (c.members.ensures _)

pub returns-in-Earliest : goal.returns-in-Earliest
returns-in-Earliest c =
    by_operation _ _ _ _ c.in-Earliest.is (c.earliest.ensures _)

pub returns-in-List : goal.returns-in-List
returns-in-List c =
    by_operation _ _ _ _ c.in-List.is (c.list.ensures _)

pub returns-in-Counts : goal.returns-in-Counts
returns-in-Counts c =
    by_operation _ _ _ _ c.in-Counts.is (c.counts.ensures _)

pub returns-in-Start : goal.returns-in-Start
returns-in-Start c =
    by_operation _ _ _ _ c.in-Start.is (c.start.ensures _ _)
