-- `words_line::earliest::list::placed` meets its contract.
-- Assumes nothing.
use Rattle.laws.specs.Basics.{rules, lt-ltb, le-ltb}
use Rattle.words_line.proofs.earliest.list.placed.Goals as goal

pub returns-then-at-lt-PROCESSES : goal.returns-then-at-lt-PROCESSES
returns-then-at-lt-PROCESSES c =
    rw (lt-ltb _ _ c.if-at-lt-PROCESSES.true)

pub returns : goal.returns
returns c =
    rw (le-ltb _ _ c.if-at-lt-PROCESSES.false)
