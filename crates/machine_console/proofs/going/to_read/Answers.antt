-- `machine_console::going::to_read` meets its contract. Assumes nothing.
use Rattle.laws.specs.Basics.{arith, rules}
use Rattle.machine_console.proofs.{Arriving.no_further, Arriving.arrives_read, Leading.led}
use Rattle.machine_console.proofs.going.to_read.Goals as goal

pub returns-then-m-ge-MOST_CALLS : goal.returns-then-m-ge-MOST_CALLS
returns-then-m-ge-MOST_CALLS c =
    λ words input out. led (no_further words input c.args.m c.if-m-ge-MOST_CALLS.true) (c.stop.ensures words input out)

pub returns : goal.returns
returns c =
    λ words input out. arrives_read words input c.args.m out (omega (arith, c.if-m-ge-MOST_CALLS.false)) c.requires
