-- `machines::programs::numbers::clamped` meets its contract.
-- Assumes nothing.
use Rattle.laws.specs.Basics.{rules, lt-ltb, le-ltb}
use Rattle.machines.specs.programs.Numbers.{at_most}
use Rattle.machines.proofs.programs.numbers.clamped.Goals as goal

pub returns-then-x-gt-GREATEST : goal.returns-then-x-gt-GREATEST
unfolding at_most
returns-then-x-gt-GREATEST c =
    rw (lt-ltb _ _ c.if-x-gt-GREATEST.true)

pub returns-else-x-gt-GREATEST : goal.returns-else-x-gt-GREATEST
unfolding at_most
returns-else-x-gt-GREATEST c =
    rw (le-ltb 4294967295 c.args.x (search rules))
