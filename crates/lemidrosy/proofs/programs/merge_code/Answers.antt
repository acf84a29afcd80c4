-- `lemidrosy::programs::merge_code` meets its contract, by the cases of the answer. Assumes nothing.
use Rattle.std.specs.Prelude.{◌≡◌}
use Rattle.laws.specs.Basics.{refl, rules}
use Rattle.theory_merges.specs.Merge.{merge_report}
use Rattle.lemidrosy.proofs.programs.merge_code.Goals as goal

pub counted-requires : goal.counted-requires
unfolding merge_report
counted-requires c =
    (rw c.in-Ok.is at c.requires).value _ refl

pub returns-in-Err : goal.returns-in-Err
unfolding merge_report
returns-in-Err c =
    rw c.in-Err.is c.refused.ensures

pub returns-in-Ok : goal.returns-in-Ok
unfolding merge_report
returns-in-Ok c =
    rw c.in-Ok.is c.counted.ensures
