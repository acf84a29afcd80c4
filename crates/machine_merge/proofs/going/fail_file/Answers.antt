-- `machine_merge::going::fail_file` meets its contract.
-- Assumes nothing.
use Rattle.laws.specs.Basics.{ap, rules}
use Rattle.machine_merge.specs.{Merging.Failing, Words.name_of}
use Rattle.machine_merge.proofs.{Leading.file_text_none, Arriving.led, Arriving.printed_file}
use Rattle.machine_merge.proofs.going.fail_file.Goals as goal

pub returns-then-m-eq0 : goal.returns-then-m-eq0
returns-then-m-eq0 c =
    led (ap Failing (file_text_none c.args.m c.args.input.now c.if-m-eq0.true))
    (c.fail_no_name.ensures c.args.input.now)

pub returns : goal.returns
unfolding name_of
returns c =
    let from = c.name_at-from in rw c.at.ensures
    (printed_file c.args.m c.args.input.now c.requires.0 c.args.m.name from.result c.requires.2 from.ensures.0 _ _ _ _ _
    c.if-m-eq0.false c.requires.1
    c.write_word-prefix.ensures c.write_word-size.ensures)
