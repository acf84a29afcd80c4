-- `machine_simulate::arguments::is_refused` meets its contract.
-- Assumes nothing.
use Rattle.laws.specs.Basics.{rules}
use Rattle.machine_simulate.specs.Arguments.{is_refused}
use Rattle.machine_simulate.proofs.arguments.is_refused.Goals as goal

pub returns : goal.returns
unfolding is_refused
returns c =
    rw (c.is_outside-length.ensures, c.is_outside-last.ensures, c.is_outside-first.ensures, c.is_outside-count.ensures)
