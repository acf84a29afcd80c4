-- `machine_merge::marks::read` meets its contract.
-- Assumes nothing.
use Rattle.laws.specs.Basics.{refl, rules}
use Rattle.machine_merge.specs.Words.{marks_of}
use Rattle.machine_merge.proofs.marks.read.Goals as goal

pub returns : goal.returns
unfolding marks_of
returns c =
    refl
