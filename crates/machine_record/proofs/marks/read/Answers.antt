-- `machine_record::marks::read` meets its contract. Assumes nothing.
use Rattle.laws.specs.Basics.{refl, rules}
use Rattle.machine_record.specs.Lent.{marks_of}
use Rattle.machine_record.proofs.marks.read.Goals as goal

pub returns : goal.returns
unfolding marks_of
returns c =
    refl
