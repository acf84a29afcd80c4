-- `machine_simulate::begin` meets its contract.
-- Assumes nothing.
use Rattle.laws.specs.Basics.{arith, rules}
use Rattle.machine_simulate.proofs.{Standing.counting_stands}
use Rattle.machine_simulate.proofs.begin.Goals as goal

pub returns : goal.returns
returns c =
    let at-put = c.put in counting_stands _ c.args.input.now c.args.out.now (omega (arith, at-put.auto.memory, c.requires.0), c.requires.1, c.requires.2) _ at-put.ensures
