-- `words::messages::hit` meets its contract. Assumes nothing.
use Rattle.laws.specs.Basics.{refl, rules, eq-eqb, ne_eqb}
use Rattle.words.proofs.messages.hit.Goals as goal

pub returns-then-low-wanted : goal.returns-then-low-wanted
returns-then-low-wanted c =
    rw (eq-eqb _ _ c.if-low-wanted.true) refl

pub returns-else-low-wanted : goal.returns-else-low-wanted
returns-else-low-wanted c =
    rw (ne_eqb _ _ c.if-low-wanted.false) refl
