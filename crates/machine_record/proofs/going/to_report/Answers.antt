-- `machine_record::going::to_report` meets its contract. Assumes nothing.
use Rattle.laws.specs.Basics.{sym, arith, length-take-le, rules}
use Rattle.machine_record.proofs.{Arriving.none_to_report, Arriving.arrives_report, Leading.led}
use Rattle.machine_record.proofs.going.to_report.Goals as goal

pub to_read-requires : goal.to_read-requires
to_read-requires c =
    let p = c.requires in (p.0, p.1, p.2)

pub returns-then-pending-eq0 : goal.returns-then-pending-eq0
returns-then-pending-eq0 c =
    λ words input. led (none_to_report words input _ c.args.m c.if-pending-eq0.true) (c.to_read.ensures words input _ _)

pub slice_bounds-write_word-end : goal.slice_bounds-write_word-end
slice_bounds-write_word-end c =
    sym (length-take-le c.args.m.pending c.args.lines.now c.requires.3)

pub write_word-size-requires : goal.write_word-size-requires
write_word-size-requires c =
    omega (arith, c.requires.4, length-take-le c.args.m.pending c.args.lines.now c.requires.3)

pub returns : goal.returns
returns c =
    λ words input.
    arrives_report words input _ c.args.m _ _ _ c.requires.0 c.requires.1 c.requires.2 c.requires.3 c.requires.4 c.if-pending-eq0.false c.write_word-size.ensures
