-- `machine_record::marks::in_bounds` meets its contract. Assumes nothing.
use Rattle.laws.specs.Basics.{refl}
use Rattle.machine_record.specs.Lent.{in_bounds_of}
use Rattle.machine_record.proofs.marks.in_bounds.Goals as goal

pub returns : goal.returns
unfolding in_bounds_of
returns c =
    refl
