-- `machine_replay::phases::ready_lines` meets its contract.
-- Assumes nothing.
use Rattle.laws.specs.Basics.{◌∙◌, rules}
use Rattle.machine_replay.specs.{Replaying.wrote, Ready.comes_to, Ready.Lying, Ready.lines_state}
use Rattle.machine_replay.proofs.{Places.lies_there}
use Rattle.machine_replay.proofs.phases.ready_lines.Goals as goal

pub returns-then-is_written : goal.returns-then-is_written
unfolding comes_to Lying lines_state wrote
returns-then-is_written c =
    let a = c.args in record { out_after = rw (c.is_done-is_written.ensures a.p.buffered a.input.now, c.if-is_written.true); lying = lies_there c.requires }

pub returns : goal.returns
unfolding comes_to Lying lines_state wrote
returns c =
    let a = c.args in record { out_after = c.fail_output.ensures ∙ rw (c.is_done-is_written.ensures a.p.buffered a.input.now, c.if-is_written.false); lying = tt }
