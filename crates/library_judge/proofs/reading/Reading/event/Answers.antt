-- `library_judge::reading::Reading::event` meets its contract, by the kind of the record.
-- Assumes nothing.
use Rattle.library_judge.proofs.{Keeping.enough_room, Keeping.send_room, Keeping.deliver_room}
use Rattle.library_judge.proofs.Records.{checkpoint_reads, send_reads, deliver_reads, lose_reads, recover_reads}
use Rattle.library_judge.proofs.reading.Reading.event.Goals as goal

pub checkpoint-requires : goal.checkpoint-requires
checkpoint-requires c =
    let p = c.requires in enough_room _ _ _ _ _ p.4 p.3

pub send-requires : goal.send-requires
send-requires c =
    let p = c.requires in send_room _ _ _ _ _ p.4 p.3

pub deliver-requires : goal.deliver-requires
deliver-requires c =
    let p = c.requires in deliver_room _ _ _ _ _ p.4 p.3 _

pub returns-in-Checkpoint : goal.returns-in-Checkpoint
returns-in-Checkpoint c =
    rw c.in-Checkpoint.is (checkpoint_reads _ _ _ _ _ c.checkpoint.ensures.answer c.checkpoint.ensures.after)

pub returns-in-Send : goal.returns-in-Send
returns-in-Send c =
    rw c.in-Send.is (send_reads _ _ _ _ _ _ c.send.ensures.answer c.send.ensures.after)

pub returns-in-Deliver : goal.returns-in-Deliver
returns-in-Deliver c =
    rw c.in-Deliver.is (deliver_reads _ _ _ _ _ c.deliver.ensures.answer c.deliver.ensures.after)

pub returns-in-Lose : goal.returns-in-Lose
returns-in-Lose c =
    rw c.in-Lose.is (lose_reads _ _ _ _ _ c.lose.ensures.answer c.lose.ensures.after)

pub returns-in-Recover : goal.returns-in-Recover
returns-in-Recover c =
    rw c.in-Recover.is (recover_reads _ _ _ _)
