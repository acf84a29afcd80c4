-- `words_line::restored::known_pin` meets its contract.
-- Assumes nothing.
use Rattle.laws.specs.Basics.{eq-eqb, ne_eqb}
use Rattle.words_line.proofs.restored.known_pin.Goals as goal

pub returns-then-known-own : goal.returns-then-known-own
returns-then-known-own c =
    rw (eq-eqb c.args.known.0 c.args.own.0 c.if-known-own.true)

pub returns-else-known-own : goal.returns-else-known-own
returns-else-known-own c =
    rw (ne_eqb c.args.known.0 c.args.own.0 c.if-known-own.false)
