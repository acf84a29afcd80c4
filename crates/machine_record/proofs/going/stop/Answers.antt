-- `machine_record::going::stop` meets its contract. Assumes nothing.
use Rattle.laws.specs.Basics.{arith, rules}
use Rattle.machine_record.specs.Lent.{state_in}
use Rattle.machine_record.proofs.{Arriving.arrives_at}
use Rattle.machine_record.proofs.going.stop.Goals as goal

pub returns : goal.returns
unfolding state_in
returns c =
    λ words input out lines. rw c.at.ensures (arrives_at words input lines 0 0 out (omega arith))
