-- `machine_console::going::stop` meets its contract. Assumes nothing.
use Rattle.laws.specs.Basics.{rules}
use Rattle.machine_console.specs.Lent.{state_in}
use Rattle.machine_console.proofs.{Arriving.arrives_at}
use Rattle.machine_console.proofs.going.stop.Goals as goal

pub returns : goal.returns
unfolding state_in
returns c =
    λ words input out. rw c.at.ensures (arrives_at words input 0 out)
