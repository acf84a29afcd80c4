-- `machine_record::begin` meets its contract. Assumes nothing.
use Rattle.laws.specs.Basics.{refl, arith, rules}
use Rattle.machine_record.specs.Lent.{state_in}
use Rattle.machine_record.proofs.{Arriving.arrives_at, Stepping.enough_room, Stepping.room_kept, Stepping.put_stands}
use Rattle.machine_record.proofs.begin.Goals as goal

pub put-requires : goal.put-requires
put-requires c =
    (enough_room _ _ _ _ _ c.requires).memory_room

pub request-requires : goal.request-requires
request-requires c =
    rw c.at-first.ensures (omega arith, omega arith)

pub returns : goal.returns
unfolding state_in
returns c =
    put_stands _ _ _ _ _ _ _ _ (room_kept _ _ _ _ _ _ _ _ _ _ c.put.auto.memory refl refl refl refl c.requires) c.put.ensures (rw c.at-first.ensures (arrives_at _ _ _ 1 0 _ (omega arith))) c.request.ensures
