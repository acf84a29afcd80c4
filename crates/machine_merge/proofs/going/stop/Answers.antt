-- `machine_merge::going::stop` meets its contract.
-- Assumes nothing.
use Rattle.laws.specs.Basics.{rules}
use Rattle.machine_merge.proofs.{Arriving.arrives_stopped}
use Rattle.machine_merge.proofs.going.stop.Goals as goal

pub returns : goal.returns
returns c =
    λ input out. rw c.at.ensures (arrives_stopped input out)
