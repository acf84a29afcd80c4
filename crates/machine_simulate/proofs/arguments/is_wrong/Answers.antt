-- `machine_simulate::arguments::is_wrong` meets its contract.
-- Assumes nothing.
use Rattle.laws.specs.Basics.{rules}
use Rattle.machine_simulate.specs.Arguments.{is_wrong_of}
use Rattle.machine_simulate.proofs.arguments.is_wrong.Goals as goal

pub returns : goal.returns
unfolding is_wrong_of
returns c =
    search rules
