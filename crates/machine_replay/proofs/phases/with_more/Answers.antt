-- `machine_replay::phases::with_more` meets its contract.
-- Assumes nothing.
use Rattle.laws.specs.Basics.{refl, rules}
use Rattle.machine_replay.specs.Standing.{holding}
use Rattle.machine_replay.proofs.phases.with_more.Goals as goal

pub returns : goal.returns
unfolding holding
returns c =
    refl
