-- `words_line::restored::later_of` meets its contract.
-- Assumes nothing.
use Rattle.laws.specs.Basics.{lt-ltb, le-ltb}
use Rattle.words_line.proofs.restored.later_of.Goals as goal

pub returns-then-known-own : goal.returns-then-known-own
returns-then-known-own c =
    rw (lt-ltb c.args.known.0 c.args.own.0 c.if-known-own.true)

pub returns-else-known-own : goal.returns-else-known-own
returns-else-known-own c =
    rw (le-ltb c.args.known.0 c.args.own.0 c.if-known-own.false)
