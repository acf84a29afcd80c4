-- `machine_simulate::size_of` meets its contract.
-- Assumes nothing.
use Rattle.laws.specs.Basics.{rules}
use Rattle.machine_simulate.proofs.{Stepping.size_brought, Stepping.size_ended, Stepping.size_failed}
use Rattle.machine_simulate.proofs.size_of.Goals as goal

pub returns-in-Brought : goal.returns-in-Brought
returns-in-Brought c =
    size_brought c.args.taken c.requires _ c.in-Brought.is

pub returns-in-Ended : goal.returns-in-Ended
returns-in-Ended c =
    size_ended c.args.taken c.requires c.in-Ended.is

pub returns-in-Failed : goal.returns-in-Failed
returns-in-Failed c =
    size_failed c.args.taken c.requires c.in-Failed.is
