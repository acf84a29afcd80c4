-- `words::rows::vector::greater` meets its contract, by whether the carried entry is greater.
-- Assumes nothing.
use Rattle.laws.specs.Basics.{sym, ◌∙◌, rules}
use Rattle.words.proofs.rows.vector.greater.Goals as goal

pub returns-then-risen : goal.returns-then-risen
returns-then-risen c =
    rw (sym c.rises-risen.ensures ∙ c.if-risen.true)

pub returns-else-risen : goal.returns-else-risen
returns-else-risen c =
    rw (sym c.rises-risen.ensures ∙ c.if-risen.false)
