-- `machine_console::marks::in_bounds` meets its contract. Assumes nothing.
use Rattle.laws.specs.Basics.{refl, rules}
use Rattle.machine_console.specs.Lent.{in_bounds_of}
use Rattle.machine_console.proofs.marks.in_bounds.Goals as goal

pub returns : goal.returns
unfolding in_bounds_of
returns c =
    rw c.most_done-most.ensures refl
