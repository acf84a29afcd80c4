-- `machine_replay::phases::plain` meets its contract.
-- Assumes nothing.
use Rattle.laws.specs.Basics.{refl}
use Rattle.machine_replay.specs.Standing.{plain_place}
use Rattle.machine_replay.proofs.phases.plain.Goals as goal

pub returns : goal.returns
unfolding plain_place
returns c =
    refl
