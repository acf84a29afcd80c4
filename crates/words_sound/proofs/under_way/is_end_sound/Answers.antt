-- `words_sound::under_way::is_end_sound` meets its contract. Assumes nothing.
use Rattle.std.specs.Prelude.{◌-◌}
use Rattle.laws.specs.Basics.{ap, not, ℕ, eqb, rules, eq-eqb, ne_eqb}
use Rattle.words_sound.proofs.under_way.is_end_sound.Goals as goal

pub returns-then-end-eq0 : goal.returns-then-end-eq0
returns-then-end-eq0 c =
    rw (eq-eqb c.args.end 0 c.if-end-eq0.true)

pub returns : goal.returns
returns c =
    rw (ne_eqb c.args.end 0 c.if-end-eq0.false) (ap (λ (x : ℕ). not (eqb x 0)) c.number_in-number.ensures)
