-- `machine_record::has_room` meets its contract. Assumes nothing.
use Rattle.laws.specs.Basics.{refl}
use Rattle.machine_record.specs.Lent.{has_room_of}
use Rattle.machine_record.proofs.has_room.Goals as goal

pub returns : goal.returns
unfolding has_room_of
returns c =
    refl
