-- `machine_replay::step::step` meets its contract.
-- Assumes nothing.
use Rattle.laws.specs.Basics.{false≢true, rules}
use Rattle.machine_replay.proofs.step.step.Goals as goal

pub step_from-requires : goal.step_from-requires
step_from-requires c =
    λ e. absurd (false≢true e)
