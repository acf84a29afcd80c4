-- What the answer to a read or a write comes to before records are taken.
-- Assumes nothing.
use Rattle.laws.specs.Basics.{List, ℕ, eqb, length, pick}
use Rattle.machines.specs.declared.Answer.{Answer}
use Rattle.machines.specs.{Machines.heard_read, Machines.heard_done, Forms.answer_of}
use Rattle.machine_replay.specs.declared.{place.Place.Place, phases.Ready.Ready, phases.Ready.TheVariants.Take, phases.Ready.TheVariants.Stay}
use Rattle.machine_replay.specs.Replaying.{State, most_to_read, onward, filled, wrote}
use Rattle.machine_replay.specs.Standing.{reading_phase, Lies, between_in, state_in}

-- The state that it leads to: that after the records at this place, or the one that stands there.
unfoldable pub comes_to : Ready → List ℕ → List ℕ → List ℕ → State
comes_to (Take q) words input out = onward (length out) (between_in q words input)
comes_to (Stay q) words input out = state_in q words input out

-- The records lie in the lists.
unfoldable pub Lying : Ready → List ℕ → List ℕ → List ℕ → Type 0
Lying (Take q) words input out = Lies q words input out
Lying (Stay q) words input out = Unit {0}

-- The state after an answer to a read, and to a write of lines, with this much room for lines.
unfoldable pub read_state : Place → List ℕ → List ℕ → ℕ → Answer → State
read_state p words input room answer =
    filled room (between_in p words input) (heard_read (most_to_read (length input) (between_in p words input)) (answer_of answer p.buffered input))

unfoldable pub lines_state : Place → List ℕ → List ℕ → ℕ → Answer → State
lines_state p words input room answer = wrote (onward room (between_in p words input)) (heard_done (answer_of answer p.buffered input))

-- The state after either, by the phase.
unfoldable pub bytes_state : Place → List ℕ → List ℕ → ℕ → Answer → State
bytes_state p words input room answer = pick (eqb p.phase reading_phase) (read_state p words input room answer) (lines_state p words input room answer)
