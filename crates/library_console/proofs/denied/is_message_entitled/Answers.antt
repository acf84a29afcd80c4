-- `library_console::denied::is_message_entitled` meets its contract, by the cases of the role.
-- Assumes nothing.
use Rattle.laws.specs.Basics.{rules}
use Rattle.words.specs.Layout.{run_of}
use Rattle.model.specs.Steps.{found}
use Rattle.theory_roles.specs.Console.{entitled_message_by}
use Rattle.library_console.proofs.{Receiving.reaches_own}
use Rattle.library_console.proofs.denied.is_message_entitled.Goals as goal

pub returns-in-Operator : goal.returns-in-Operator
unfolding entitled_message_by
returns-in-Operator c =
    search rules

pub returns-in-JobOwner : goal.returns-in-JobOwner
returns-in-JobOwner c =
    let a = c.args in rw c.in-JobOwner.is (reaches_own a.owned (run_of a.w.now).count (found (run_of a.w.now) a.m) _ _ c.receiver_of-to.ensures (rw c.count_of-n.ensures at c.is_own-own.ensures))

pub returns-in-Viewer : goal.returns-in-Viewer
unfolding entitled_message_by
returns-in-Viewer c =
    search rules
