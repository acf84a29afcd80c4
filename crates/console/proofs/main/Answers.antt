-- `console::main` meets its contract: its buffers are large enough. Assumes nothing.
use Rattle.laws.specs.Basics.{refl}
use Rattle.machine_console.specs.Lent.{has_room_of}
use Rattle.console.proofs.main.Goals as goal

pub drive-requires : goal.drive-requires
unfolding has_room_of
drive-requires c =
    refl
