-- `machine_simulate::kept` meets its contract.
-- Assumes nothing.
use Rattle.laws.specs.Basics.{rules}
use Rattle.machine_simulate.specs.Words.{kept_in}
use Rattle.machine_simulate.proofs.kept.Goals as goal

pub returns : goal.returns
unfolding kept_in
returns c =
    search rules
