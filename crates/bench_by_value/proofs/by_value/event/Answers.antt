-- `bench_by_value::by_value::event` meets its contract. Assumes nothing.
use Rattle.laws.specs.Basics.{◌∙◌}
use Rattle.bench_by_value.proofs.ByValue.{checkpoint_does, send_does, deliver_does, lose_does}
use Rattle.bench_by_value.proofs.by_value.event.Goals as goal

pub returns-in-Checkpoint : goal.returns-in-Checkpoint
returns-in-Checkpoint c =
    let g = c.checkpoint-o.ensures in rw c.in-Checkpoint.is (let z = (checkpoint_does _ _ _ _ c.requires.0 g.run_value _ g.answer_value) in record { run_value = z.0; accepted_value = c.is_ok-accepted.ensures.value ∙ z.1 })

pub returns-in-Send : goal.returns-in-Send
returns-in-Send c =
    let g = c.send-o.ensures in rw c.in-Send.is (let z = (send_does _ _ _ _ g.run_value _ g.answer_value) in record { run_value = z.0; accepted_value = c.is_ok-accepted-in-Send.ensures.value ∙ z.1 })

pub returns-in-Deliver : goal.returns-in-Deliver
returns-in-Deliver c =
    let g = c.deliver-o.ensures in rw c.in-Deliver.is (let z = (deliver_does _ _ _ _ c.requires.0 g.run_value _ g.answer_value) in record { run_value = z.0; accepted_value = c.is_ok-accepted-in-Deliver.ensures.value ∙ z.1 })

pub returns-in-Lose : goal.returns-in-Lose
returns-in-Lose c =
    let g = c.lose-o.ensures in rw c.in-Lose.is (let z = (lose_does _ _ _ g.run_value _ g.answer_value) in record { run_value = z.0; accepted_value = c.is_ok-accepted-in-Lose.ensures.value ∙ z.1 })

pub returns-in-Recover : goal.returns-in-Recover
returns-in-Recover c =
    rw c.in-Recover.is (record { run_value = c.recover.ensures.run_value; accepted_value = c.recover.ensures.accepted_value })
