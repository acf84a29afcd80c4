-- `record::main` meets its contract: its buffers are large enough. Assumes nothing.
use Rattle.laws.specs.Basics.{refl}
use Rattle.machine_record.specs.Lent.{has_room_of}
use Rattle.record.proofs.main.Goals as goal

pub drive-requires : goal.drive-requires
unfolding has_room_of
drive-requires c =
    refl
