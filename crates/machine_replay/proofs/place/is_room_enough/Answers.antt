-- `machine_replay::place::is_room_enough` meets its contract.
-- Assumes nothing.
use Rattle.laws.specs.Basics.{eq-eqb, ne_eqb, le-leb, lt-leb}
use Rattle.machine_replay.specs.Standing.{enough_room}
use Rattle.machine_replay.proofs.place.is_room_enough.Goals as goal

pub returns-then-words-ne-WORDS : goal.returns-then-words-ne-WORDS
unfolding enough_room
returns-then-words-ne-WORDS c =
    rw (ne_eqb c.args.words 6464 c.if-words-ne-WORDS.true)

pub returns-then-input-lt-LEAST_INPUT : goal.returns-then-input-lt-LEAST_INPUT
unfolding enough_room
returns-then-input-lt-LEAST_INPUT c =
    rw (eq-eqb c.args.words 6464 c.if-words-ne-WORDS.false, lt-leb 8 c.args.input c.if-input-lt-LEAST_INPUT.true)

pub returns : goal.returns
unfolding enough_room
returns c =
    rw (eq-eqb c.args.words 6464 c.if-words-ne-WORDS.false, le-leb 8 c.args.input c.if-input-lt-LEAST_INPUT.false)
