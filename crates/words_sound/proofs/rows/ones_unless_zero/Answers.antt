-- `words_sound::rows::ones_unless_zero` meets its contract. Assumes nothing.
use Rattle.laws.specs.Basics.{eq-eqb, ne_eqb}
use Rattle.words_sound.proofs.rows.ones_unless_zero.Goals as goal

pub returns-then-x-eq0 : goal.returns-then-x-eq0
returns-then-x-eq0 c =
    rw (eq-eqb c.args.x 0 c.if-x-eq0.true)

pub returns-else-x-eq0 : goal.returns-else-x-eq0
returns-else-x-eq0 c =
    rw (ne_eqb c.args.x 0 c.if-x-eq0.false)
