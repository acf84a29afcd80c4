-- `words_sound::process::is_cause_sound` meets its contract. Assumes nothing.
use Rattle.laws.specs.Basics.{eq-eqb, ne_eqb}
use Rattle.model.specs.Sound.{cause_sound}
use Rattle.words_sound.proofs.process.is_cause_sound.Goals as goal

pub returns-then-index-eq0 : goal.returns-then-index-eq0
unfolding cause_sound
returns-then-index-eq0 c =
    rw (eq-eqb c.args.index.0 0 c.if-index-eq0.true)

pub returns-else-index-eq0 : goal.returns-else-index-eq0
unfolding cause_sound
returns-else-index-eq0 c =
    rw (ne_eqb c.args.index.0 0 c.if-index-eq0.false)
