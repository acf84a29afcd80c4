-- `machine_console::going::go_on` meets its contract. Assumes nothing.
use Rattle.laws.specs.Basics.{arith, rules}
use Rattle.machine_console.proofs.{Arriving.onward_called, Arriving.arrives_more, Leading.led}
use Rattle.machine_console.proofs.going.go_on.Goals as goal

pub returns-then-buffered-ge8 : goal.returns-then-buffered-ge8
returns-then-buffered-ge8 c =
    led (onward_called _ _ c.args.done c.args.buffered c.if-buffered-ge8.true c.requires.1 c.requires.3) c.make_call.ensures

pub returns : goal.returns
returns c =
    arrives_more _ _ c.args.done c.args.buffered _ c.requires.0 (omega (arith, c.if-buffered-ge8.false)) (omega (arith, c.requires.1, c.requires.3))
