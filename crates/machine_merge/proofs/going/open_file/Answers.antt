-- `machine_merge::going::open_file` meets its contract.
-- Assumes nothing.
use Rattle.laws.specs.Basics.{rules}
use Rattle.machine_merge.proofs.{Arriving.printed_opening}
use Rattle.machine_merge.proofs.going.open_file.Goals as goal

pub returns : goal.returns
returns c =
    printed_opening c.args.m c.args.input.now c.requires.1 c.args.name
    c.name_at-from.result c.requires.3 c.name_at-from.ensures.0 _ _
    _ c.requires.0 c.requires.2 c.write_word.ensures
