-- `library_replay::record::event_on` meets its contract. Assumes nothing.
use Rattle.laws.specs.Basics.{rules}
use Rattle.library_replay.proofs.record.event_on.Goals as goal

pub returns-in-Checkpoint : goal.returns-in-Checkpoint
returns-in-Checkpoint c =
    let g = c.checkpoint.ensures in record { performs = rw c.in-Checkpoint.is g.performs; sound_value = g.sound_value; leaves = g.leaves }

pub returns-in-Send : goal.returns-in-Send
returns-in-Send c =
    let g = c.send.ensures in record { performs = rw c.in-Send.is (g.by_index _); sound_value = g.sound_value; leaves = g.leaves }

pub returns-in-Deliver : goal.returns-in-Deliver
returns-in-Deliver c =
    let g = c.deliver.ensures in record { performs = rw c.in-Deliver.is g.performs; sound_value = g.sound_value; leaves = g.leaves }

pub returns-in-Lose : goal.returns-in-Lose
returns-in-Lose c =
    let g = c.lose.ensures in record { performs = rw c.in-Lose.is (g.by_index _); sound_value = g.sound_value; leaves = g.leaves }

pub returns-in-Recover : goal.returns-in-Recover
returns-in-Recover c =
    let g = c.recover.ensures in record { performs = rw c.in-Recover.is g.performs; sound_value = g.sound_value; leaves = g.leaves }
