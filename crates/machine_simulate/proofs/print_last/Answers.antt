-- `machine_simulate::print_last` meets its contract.
-- Assumes nothing.
use Rattle.laws.specs.Basics.{arith, rules}
use Rattle.machine_simulate.proofs.{Standing.printing_stands}
use Rattle.machine_simulate.proofs.print_last.Goals as goal

pub returns : goal.returns
returns c =
    let at-put = c.put in printing_stands _ c.args.input.now c.args.out.now (omega (arith, at-put.auto.memory, c.requires.0.0), c.requires.0.1, c.requires.0.2) _ c.args.size (omega (arith, c.requires.1, c.requires.0.2)) at-put.ensures
