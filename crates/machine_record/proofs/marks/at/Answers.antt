-- `machine_record::marks::at` meets its contract. Assumes nothing.
use Rattle.laws.specs.Basics.{refl}
use Rattle.machine_record.proofs.marks.at.Goals as goal

pub returns : goal.returns
returns c =
    refl
