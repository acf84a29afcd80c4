-- `machine_replay::phases::after_last` meets its contract.
-- Assumes nothing.
use Rattle.laws.specs.Basics.{◌∙◌, arith, rules}
use Rattle.machine_replay.specs.Replaying.{wrote}
use Rattle.machine_replay.proofs.{Places.text_stopped}
use Rattle.machine_replay.proofs.phases.after_last.Goals as goal

pub returns-then-is_written : goal.returns-then-is_written
unfolding wrote
returns-then-is_written c =
    let a = c.args in rw c.with_text.ensures (text_stopped 0 a.words.now a.input.now a.out.now c.requires (omega arith) ∙ rw (c.is_done-is_written.ensures a.p.buffered a.input.now, c.if-is_written.true))

pub returns : goal.returns
unfolding wrote
returns c =
    let a = c.args in c.fail_output.ensures ∙ rw (c.is_done-is_written.ensures a.p.buffered a.input.now, c.if-is_written.false)
