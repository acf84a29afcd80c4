-- `machine_replay::phases::after_bytes` meets its contract.
-- Assumes nothing.
use Rattle.laws.specs.Basics.{◌∙◌, rules}
use Rattle.machine_replay.specs.Ready.{comes_to, Lying}
use Rattle.machine_replay.proofs.phases.after_bytes.Goals as goal

pub take-requires : goal.take-requires
unfolding Lying
take-requires c =
    (rw c.in-Take.is at c.ready_after-ready.ensures.lying, c.requires.1)

pub returns-in-Take : goal.returns-in-Take
unfolding comes_to
returns-in-Take c =
    c.take.ensures ∙ (rw c.in-Take.is at c.ready_after-ready.ensures.out_after)

pub returns-in-Stay : goal.returns-in-Stay
unfolding comes_to
returns-in-Stay c =
    rw c.in-Stay.is at c.ready_after-ready.ensures.out_after
