-- `library_replay::block::replay_reached` meets its contract. Assumes nothing.
use Rattle.laws.specs.Basics.{sym, rules}
use Rattle.whole_runs.proofs.WholeRuns.{reachable_sound}
use Rattle.library_replay.proofs.{Iterations.block_reachable}
use Rattle.library_replay.proofs.block.replay_reached.Goals as goal

pub replay_from-requires : goal.replay_from-requires
replay_from-requires c =
    let v = c.requires in (sym (reachable_sound _ v), λ e. v)

pub returns : goal.returns
returns c =
    let g = c.replay_from.ensures in record { taken_value = g.taken_value; written_value = g.written_value; going_value = g.going_value; out_after = c.replay_from.ensures.out_after; w_after = c.replay_from.ensures.w_after; leaves = c.replay_from.ensures.leaves; reachable = block_reachable _ c.requires _ _ _ _ _ c.replay_from.ensures.w_after }
