-- `machine_replay::phases::after_count` meets its contract.
-- Assumes nothing.
use Rattle.laws.specs.Basics.{◌∙◌, ap, rules}
use Rattle.machine_replay.specs.Replaying.{counted}
use Rattle.machine_replay.proofs.{Places.plain_counted}
use Rattle.machine_replay.proofs.phases.after_count.Goals as goal

pub returns : goal.returns
returns c =
    let a = c.args in rw c.plain.ensures (plain_counted c.is_number-is_one.result a.words.now a.input.now a.out.now c.requires ∙ ap counted (c.is_number-is_one.ensures a.p.buffered a.input.now))
