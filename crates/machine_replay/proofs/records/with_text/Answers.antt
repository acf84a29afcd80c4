-- `machine_replay::records::with_text` meets its contract.
-- Assumes nothing.
use Rattle.laws.specs.Basics.{refl}
use Rattle.machine_replay.specs.Standing.{text_place}
use Rattle.machine_replay.proofs.records.with_text.Goals as goal

pub returns : goal.returns
unfolding text_place
returns c =
    refl
