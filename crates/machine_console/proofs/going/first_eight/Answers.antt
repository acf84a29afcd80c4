-- `machine_console::going::first_eight` meets its contract. Assumes nothing.
use Rattle.laws.specs.Basics.{rules}
use Rattle.machine_console.proofs.{Arriving.eight}
use Rattle.machine_console.proofs.going.first_eight.Goals as goal

pub returns : goal.returns
returns c =
    eight c.args.input.now c.requires
