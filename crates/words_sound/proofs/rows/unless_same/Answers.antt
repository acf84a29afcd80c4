-- `words_sound::rows::unless_same` meets its contract. Assumes nothing.
use Rattle.laws.specs.Basics.{eq-eqb, ne_eqb}
use Rattle.words_sound.proofs.rows.unless_same.Goals as goal

pub returns-then-a-b : goal.returns-then-a-b
returns-then-a-b c =
    rw (eq-eqb c.args.a c.args.b c.if-a-b.true)

pub returns-else-a-b : goal.returns-else-a-b
returns-else-a-b c =
    rw (ne_eqb c.args.a c.args.b c.if-a-b.false)
