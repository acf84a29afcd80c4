-- `words::messages::one_if_used` meets its contract. Assumes nothing.
use Rattle.laws.specs.Basics.{refl, sym, ◌∙◌, rules}
use Rattle.words.proofs.messages.one_if_used.Goals as goal

pub returns-then-used : goal.returns-then-used
returns-then-used c =
    rw (sym c.is_used-used.ensures ∙ c.if-used.true) refl

pub returns-else-used : goal.returns-else-used
returns-else-used c =
    rw (sym c.is_used-used.ensures ∙ c.if-used.false) refl
