-- `machine_console::going::make_call` meets its contract. Assumes nothing.
use Rattle.laws.specs.Basics.{rules}
use Rattle.machine_console.proofs.{Arriving.arrives_called}
use Rattle.machine_console.proofs.going.make_call.Goals as goal

pub returns : goal.returns
returns c =
    arrives_called c.args.done _ _ _ _ _ _ c.requires.0 c.requires.2 c.first_eight-bytes.ensures c.make-size.ensures
