-- `machine_console::calls::number_of` meets its contract. Assumes nothing.
use Rattle.laws.specs.Basics.{refl, rules}
use Rattle.library_console.specs.Asked.{claim_of}
use Rattle.machine_console.proofs.calls.number_of.Goals as goal

pub returns-in-Operator : goal.returns-in-Operator
unfolding claim_of
returns-in-Operator c =
    rw c.in-Operator.is refl

pub returns-in-JobOwner : goal.returns-in-JobOwner
unfolding claim_of
returns-in-JobOwner c =
    rw c.in-JobOwner.is refl

pub returns-in-Viewer : goal.returns-in-Viewer
unfolding claim_of
returns-in-Viewer c =
    rw c.in-Viewer.is refl
