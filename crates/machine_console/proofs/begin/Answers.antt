-- `machine_console::begin` meets its contract. Assumes nothing.
use Rattle.laws.specs.Basics.{refl, arith, rules}
use Rattle.machine_console.specs.Lent.{state_in}
use Rattle.machine_console.proofs.{Arriving.arrives_at, Stepping.enough_room, Stepping.room_kept, Stepping.put_stands}
use Rattle.machine_console.proofs.begin.Goals as goal

pub put-requires : goal.put-requires
put-requires c =
    (enough_room _ _ _ _ c.requires).memory_room

pub request-requires : goal.request-requires
request-requires c =
    rw c.at-first.ensures (omega arith)

pub returns : goal.returns
unfolding state_in
returns c =
    put_stands _ _ _ _ _ _ _ (room_kept _ _ _ _ _ _ _ _ c.put.auto.memory refl refl refl c.requires) c.put.ensures (rw c.at-first.ensures (arrives_at _ _ 1 _)) c.request.ensures
