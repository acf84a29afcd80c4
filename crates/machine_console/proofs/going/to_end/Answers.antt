-- `machine_console::going::to_end` meets its contract. Assumes nothing.
use Rattle.laws.specs.Basics.{rules}
use Rattle.machine_console.proofs.{Arriving.none_left, Arriving.some_left, Leading.led}
use Rattle.machine_console.proofs.going.to_end.Goals as goal

pub returns-then-m-eq0 : goal.returns-then-m-eq0
returns-then-m-eq0 c =
    λ words input inside. led (none_left words input c.args.m c.if-m-eq0.true) (c.stop.ensures words input _)

pub returns : goal.returns
returns c =
    λ words input inside. led (some_left words input c.args.m c.if-m-eq0.false inside) (c.end_refused.ensures words input)
