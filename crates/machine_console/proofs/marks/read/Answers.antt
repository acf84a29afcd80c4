-- `machine_console::marks::read` meets its contract. Assumes nothing.
use Rattle.laws.specs.Basics.{refl, rules}
use Rattle.machine_console.specs.Lent.{marks_of}
use Rattle.machine_console.proofs.marks.read.Goals as goal

pub returns : goal.returns
unfolding marks_of
returns c =
    refl
