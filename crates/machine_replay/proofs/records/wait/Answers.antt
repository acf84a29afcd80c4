-- `machine_replay::records::wait` meets its contract.
-- Assumes nothing.
use Rattle.laws.specs.Basics.{refl, rules}
use Rattle.machine_replay.specs.Standing.{waiting_place}
use Rattle.machine_replay.proofs.{Blocks.kept_front}
use Rattle.machine_replay.proofs.records.wait.Goals as goal

pub returns : goal.returns
unfolding waiting_place
returns c =
    (refl, kept_front c.args.input.now _ c.args.p.from c.args.p.buffered c.requires c.keep.ensures)
