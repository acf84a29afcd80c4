-- `library_console::denied::is_entitled` meets its contract, by the cases of the role.
-- Assumes nothing.
use Rattle.laws.specs.Basics.{rules}
use Rattle.theory_roles.specs.Console.{entitled_by}
use Rattle.library_console.proofs.denied.is_entitled.Goals as goal

pub returns-in-Operator : goal.returns-in-Operator
unfolding entitled_by
returns-in-Operator c =
    search rules

pub returns-in-JobOwner : goal.returns-in-JobOwner
unfolding entitled_by
returns-in-JobOwner c =
    rw c.in-JobOwner.is c.is_own.ensures

pub returns-in-Viewer : goal.returns-in-Viewer
unfolding entitled_by
returns-in-Viewer c =
    search rules
