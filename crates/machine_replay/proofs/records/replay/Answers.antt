-- `machine_replay::records::replay` meets its contract.
-- Assumes nothing.
use Rattle.laws.specs.Basics.{rules}
use Rattle.machine_replay.proofs.records.replay.Goals as goal

pub replay_reached-requires : goal.replay_reached-requires
replay_reached-requires c =
    c.requires c.if-reached.true
