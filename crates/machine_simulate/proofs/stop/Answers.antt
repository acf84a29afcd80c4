-- `machine_simulate::stop` meets its contract.
-- Assumes nothing.
use Rattle.laws.specs.Basics.{rules}
use Rattle.machine_simulate.proofs.{Standing.stopped_stands}
use Rattle.machine_simulate.proofs.stop.Goals as goal

pub returns : goal.returns
returns c =
    let at-put = c.put in stopped_stands _ _ _ at-put.ensures
