-- `machine_console::script::is_clear` meets its contract, operation by operation.
-- Assumes nothing.
use Rattle.laws.specs.Basics.{rules}
use Rattle.laws.specs.{Rows.and_true, Tests.every}
use Rattle.machine_console.specs.script.Script.{must_be_zero, is_clear_of}
use Rattle.machine_console.proofs.script.is_clear.Goals as goal

pub returns-in-Checkpoint : goal.returns-in-Checkpoint
unfolding is_clear_of must_be_zero every
returns-in-Checkpoint c =
    rw (c.in-Checkpoint.is, and_true)

pub returns-in-Send : goal.returns-in-Send
unfolding is_clear_of must_be_zero every
returns-in-Send c =
    rw c.in-Send.is

pub returns-in-Deliver : goal.returns-in-Deliver
unfolding is_clear_of must_be_zero every
returns-in-Deliver c =
    rw (c.in-Deliver.is, and_true)

pub returns-in-Lose : goal.returns-in-Lose
unfolding is_clear_of must_be_zero every
returns-in-Lose c =
    rw (c.in-Lose.is, and_true)

pub returns-in-Recover : goal.returns-in-Recover
unfolding is_clear_of must_be_zero every
returns-in-Recover c =
    rw (c.in-Recover.is, and_true)

pub returns-in-Line : goal.returns-in-Line
unfolding is_clear_of must_be_zero every
returns-in-Line c =
    rw (c.in-Line.is, and_true)

pub returns-in-Earliest : goal.returns-in-Earliest
unfolding is_clear_of must_be_zero every
returns-in-Earliest c =
    rw (c.in-Earliest.is, and_true)

pub returns-in-List : goal.returns-in-List
unfolding is_clear_of must_be_zero every
returns-in-List c =
    rw (c.in-List.is, and_true)

pub returns-in-Counts : goal.returns-in-Counts
unfolding is_clear_of must_be_zero every
returns-in-Counts c =
    rw (c.in-Counts.is, and_true)

pub returns-in-Start : goal.returns-in-Start
unfolding is_clear_of must_be_zero every
returns-in-Start c =
    rw (c.in-Start.is, and_true)
