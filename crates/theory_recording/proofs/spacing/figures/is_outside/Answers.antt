-- `theory_recording::spacing::figures::is_outside` meets its contract.
-- Assumes nothing.
use Rattle.laws.specs.Basics.{arith}
use Rattle.std.proofs.lemmas.Bool.Decides.{nat_tests}
use Rattle.theory_recording.specs.spacing.Spacing.{out_of_range}
use Rattle.theory_recording.proofs.spacing.figures.is_outside.Goals as goal

pub returns-then-x-low : goal.returns-then-x-low
unfolding out_of_range
returns-then-x-low c = grind (arith, nat_tests)

pub returns-else-x-low : goal.returns-else-x-low
unfolding out_of_range
returns-else-x-low c = grind (arith, nat_tests)
