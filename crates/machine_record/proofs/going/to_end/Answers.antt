-- `machine_record::going::to_end` meets its contract. Assumes nothing.
use Rattle.laws.specs.Basics.{arith, rules}
use Rattle.machine_record.proofs.{Arriving.none_left, Arriving.some_left, Leading.led}
use Rattle.machine_record.proofs.going.to_end.Goals as goal

pub returns-then-m-eq0 : goal.returns-then-m-eq0
returns-then-m-eq0 c =
    λ words input lines inside. led (none_left words input lines c.args.m c.if-m-eq0.true) (c.stop.ensures words input _ lines)

pub overflow_add-m : goal.overflow_add-m
overflow_add-m c =
    omega (arith, c.requires.0)

pub end_refused-requires : goal.end_refused-requires
end_refused-requires c =
    omega (arith, c.requires.2)

pub returns : goal.returns
returns c =
    λ words input lines inside. led (some_left words input lines c.args.m c.if-m-eq0.false inside) (c.end_refused.ensures words input lines)
