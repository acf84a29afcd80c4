-- `lemidrosy::console::of_list` meets its contract, by the cases of the answer. Assumes nothing.
use Rattle.std.specs.Prelude.{◌≡◌}
use Rattle.laws.specs.Basics.{refl, rules}
use Rattle.theory_roles.specs.Console.{list_report}
use Rattle.lemidrosy.proofs.console.of_list.Goals as goal

pub counted-requires : goal.counted-requires
unfolding list_report
counted-requires c =
    (rw c.in-Ok.is at c.requires).value _ refl

pub returns-in-Err : goal.returns-in-Err
unfolding list_report
returns-in-Err c =
    rw c.in-Err.is c.refused.ensures

pub returns-in-Ok : goal.returns-in-Ok
unfolding list_report
returns-in-Ok c =
    rw c.in-Ok.is c.counted.ensures
