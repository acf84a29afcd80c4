-- `machine_simulate::ask_word` meets its contract.
-- Assumes nothing.
use Rattle.laws.specs.Basics.{arith, rules}
use Rattle.machine_simulate.proofs.{Standing.asking_stands}
use Rattle.machine_simulate.proofs.ask_word.Goals as goal

pub returns : goal.returns
returns c =
    let at-put = c.put in asking_stands _ c.args.input.now c.args.out.now (omega (arith, at-put.auto.memory, c.requires.0.0), c.requires.0.1, c.requires.0.2) c.args.k c.args.i c.requires.1 c.requires.2 at-put.ensures
