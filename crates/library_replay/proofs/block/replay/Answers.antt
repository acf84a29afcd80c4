-- `library_replay::block::replay` meets its contract. Assumes nothing.
use Rattle.laws.specs.Basics.{false≢true, rules}
use Rattle.library_replay.proofs.{Iterations.block_reachable}
use Rattle.library_replay.proofs.block.replay.Goals as goal

pub replay_from-requires : goal.replay_from-requires
replay_from-requires c =
    (c.is_sound-tested.ensures, λ e. absurd (false≢true e))

pub returns : goal.returns
returns c =
    let g = c.replay_from.ensures in record { taken_value = g.taken_value; written_value = g.written_value; going_value = g.going_value; out_after = c.replay_from.ensures.out_after; w_after = c.replay_from.ensures.w_after; leaves = c.replay_from.ensures.leaves; reachable = λ v. block_reachable _ v _ _ _ _ _ c.replay_from.ensures.w_after }
