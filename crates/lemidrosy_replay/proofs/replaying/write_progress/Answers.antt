-- `lemidrosy_replay::replaying::write_progress` meets its contract. Assumes nothing.
use Rattle.laws.specs.Basics.{arith, length-set, rules}
use Rattle.lemidrosy_replay.proofs.replaying.write_progress.Goals as goal

pub bounds-progress-1 : goal.bounds-progress-1
bounds-progress-1 c =
    simp length-set (omega arith)

pub returns : goal.returns
returns c =
    rw c.one_if.ensures
