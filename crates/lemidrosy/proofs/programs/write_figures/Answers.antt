-- `lemidrosy::programs::write_figures` meets its contract, by the cases of the answer. Assumes nothing.
use Rattle.std.specs.Prelude.{◌≡◌}
use Rattle.laws.specs.Basics.{refl, arith, length-set, rules}
use Rattle.listing.specs.answers.Codes.{coded, value_code_of}
use Rattle.lemidrosy.specs.Programs.{figures_after}
use Rattle.lemidrosy.proofs.programs.write_figures.Goals as goal

pub bounds-figures-1 : goal.bounds-figures-1
bounds-figures-1 c =
    simp length-set (omega arith)

pub bounds-figures-2 : goal.bounds-figures-2
bounds-figures-2 c =
    simp length-set (omega arith)

pub bounds-figures-3 : goal.bounds-figures-3
bounds-figures-3 c =
    simp length-set (omega arith)

pub bounds-figures-4 : goal.bounds-figures-4
bounds-figures-4 c =
    simp length-set (omega arith)

pub returns-in-Err : goal.returns-in-Err
unfolding figures_after coded value_code_of
returns-in-Err c =
    rw c.in-Err.is (record { value = omega (arith, c.number_of.ensures); figures_after = refl })

pub returns-in-Ok : goal.returns-in-Ok
unfolding figures_after coded value_code_of
returns-in-Ok c =
    rw c.in-Ok.is (record { value = refl; figures_after = refl })
