-- `machine_merge::begin` meets its contract.
-- Assumes nothing.
use Rattle.laws.specs.Basics.{arith, rules}
use Rattle.machine_merge.proofs.{Arriving.arrives_counting, Stepping.put_stands}
use Rattle.machine_merge.proofs.begin.Goals as goal

pub returns : goal.returns
returns c =
    put_stands _ _ _ _ _ _ (omega (arith, c.put.auto.memory, c.requires.0), c.requires.1, c.requires.2)
    c.put.ensures (rw c.at-first.ensures (arrives_counting _ _))
    c.request.ensures
