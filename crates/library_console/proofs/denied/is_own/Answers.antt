-- `library_console::denied::is_own` meets its contract: a process that is none, and its bit.
-- Assumes nothing.
use Rattle.laws.specs.Basics.{rules, lt-ltb, le-ltb}
use Rattle.theory_roles.specs.Console.{owns}
use Rattle.library_console.proofs.denied.is_own.Goals as goal

pub returns-then-n-p : goal.returns-then-n-p
unfolding owns
returns-then-n-p c =
    rw (le-ltb _ _ c.if-n-p.true)

pub returns : goal.returns
unfolding owns
returns c =
    rw (lt-ltb _ _ c.if-n-p.false) c.has_bit.ensures
