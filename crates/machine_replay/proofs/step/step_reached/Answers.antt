-- `machine_replay::step::step_reached` meets its contract.
-- Assumes nothing.
use Rattle.laws.specs.Basics.{rules}
use Rattle.machine_replay.proofs.{Steps.from_start_on}
use Rattle.machine_replay.proofs.step.step_reached.Goals as goal

pub returns : goal.returns
returns c =
    let g = c.step_from.ensures in record { out_after = g.out_after; asks = g.asks; from_start = rw g.out_after (from_start_on _ _ _ _ c.requires) }
