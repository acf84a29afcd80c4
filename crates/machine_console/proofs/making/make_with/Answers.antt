-- `machine_console::making::make_with` meets its contract. Assumes nothing.
use Rattle.laws.specs.Basics.{arith, rules}
use Rattle.machine_console.proofs.{Lists.pairs_few, Lists.line_few, Lists.makes}
use Rattle.machine_console.proofs.making.make_with.Goals as goal

pub write_line-requires : goal.write_line-requires
write_line-requires c =
    let p = c.requires in (omega (arith, pairs_few _ c.args.c _ p.2, c.call-replied.auto.pairs), omega (arith, line_few _ c.args.c _ p.3, c.call-replied.auto.line), omega (arith, p.4))

pub returns : goal.returns
returns c =
    let write-line = c.write_line in let p = c.requires in makes _ _ _ _ _ _ _ _ _ _ _ _ _ p.1 p.2 p.3 c.call-replied.ensures write-line.ensures.0 (omega (arith, write-line.ensures.1, p.4))
