-- `machine_replay::place::load` meets its contract.
-- Assumes nothing.
use Rattle.laws.specs.Basics.{refl, rules}
use Rattle.machine_replay.specs.Standing.{place_in}
use Rattle.machine_replay.proofs.place.load.Goals as goal

pub returns : goal.returns
unfolding place_in
returns c =
    refl
