-- `words_line::line::limit_of` meets its contract. Assumes nothing.
use Rattle.laws.specs.Basics.{rules}
use Rattle.words_line.proofs.line.limit_of.Goals as goal

pub returns-then-failed : goal.returns-then-failed
returns-then-failed c =
    rw c.if-failed.true

pub returns-else-failed : goal.returns-else-failed
returns-else-failed c =
    rw c.if-failed.false
