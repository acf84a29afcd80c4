-- What is lent stands for a state, before and after a step.
-- Assumes nothing.
use Rattle.std.specs.Prelude.{◌≡◌}
use Rattle.laws.specs.Basics.{refl, sym, subst, true, false, List, ℕ, arith, length, le-ltb}
use Rattle.machines.specs.{Machines.Answer, Machines.stepped, Forms.answer_of}
use Rattle.machines.proofs.{Driving.still_stands, Places.long_enough}
use Rattle.machine_merge.specs.declared.marks.Marks.{Marks}
use Rattle.machine_merge.specs.Merging.{longest_word, State, Stopped, ask, next, merging}
use Rattle.machine_merge.specs.Words.{longest_trace, EnoughRoom, lacks_room_of, marks_of, in_bounds_of, state_in, state_of, place_in, place_of, asks_for, StandsFor, Arrives}
use Rattle.machines.specs.declared.Request as requests
use Rattle.machines.specs.declared.Request.TheVariants as request
use Rattle.machines.specs.declared.Answer as answers

-- Room, as a test and as a fact.
pub room_is : (memory input out : ℕ) → EnoughRoom memory input out → lacks_room_of memory input out ≡ false
unfolding lacks_room_of
room_is memory input out (a, b, c) = rw (le-ltb memory 7 a, le-ltb input longest_word b, le-ltb out longest_trace c) refl

pub room_by : (memory input out : ℕ) → lacks_room_of memory input out ≡ false → EnoughRoom memory input out
unfolding lacks_room_of
room_by memory input out e = long_enough memory 7 input longest_word out longest_trace e

-- What stands for no state has stopped, and stays so.
module _ (memory input out : List ℕ) (a : Answer) where
  abbrev Still : Type 0
  Still = StandsFor memory input out request.Stop (stepped merging (state_of memory input out) a)

  pub no_room : lacks_room_of (length memory) (length input) (length out) ≡ true → Still
  unfolding state_of stepped next ask
  no_room h = still_stands merging (state_of memory input out) Stopped (place_of memory) input out a (rw h refl) refl refl

  pub no_bounds : lacks_room_of (length memory) (length input) (length out) ≡ false → in_bounds_of (marks_of memory) (length out) ≡ false → Still
  unfolding state_of stepped next ask
  no_bounds h k = still_stands merging (state_of memory input out) Stopped (place_of memory) input out a (rw (h, k) refl) refl refl

-- The numbers of a state are put.
pub put_stands : (memory input out : List ℕ) (m : Marks) (r : requests.Request) (s : State) → EnoughRoom (length memory) (length input) (length out) → marks_of memory ≡ m
    → Arrives m input out s → r ≡ asks_for m → StandsFor memory input out r s
unfolding state_of
put_stands memory input out m r s room is w e = record {
  state = rw (room_is (length memory) (length input) (length out) room, is, w.bounds) w.state;
  asks = rw (e, is) w.asks;
}

-- The state before a step.
state_is : (memory input out : List ℕ) (m : Marks) → EnoughRoom (length memory) (length input) (length out) → m ≡ marks_of memory → in_bounds_of m (length out) ≡ true
    → state_of memory input out ≡ state_in m input out
unfolding state_of
state_is memory input out m room is inside = rw (room_is (length memory) (length input) (length out) room, ← is, inside) refl

pub step_stands : (memory input out memory' out' : List ℕ) (m m' : Marks) (r : requests.Request) (a : answers.Answer)
    → EnoughRoom (length memory) (length input) (length out) → m ≡ marks_of memory → in_bounds_of m (length out) ≡ true
    → length memory' ≡ length memory → length out' ≡ length out → marks_of memory' ≡ m'
    → Arrives m' input out' (stepped merging (state_in m input out) (answer_of a (place_in m) input)) → r ≡ asks_for m'
    → StandsFor memory' input out' r (stepped merging (state_of memory input out) (answer_of a (place_of memory) input))
step_stands memory input out memory' out' m m' r a room is inside same same' is' w e =
    let lead : stepped merging (state_in m input out) (answer_of a (place_in m) input) ≡ stepped merging (state_of memory input out) (answer_of a (place_of memory) input) =
    λ j. stepped merging (sym (state_is memory input out m room is inside) j) (answer_of a (place_in (is j)) input) in
    put_stands memory' input out' m' r _ (omega (arith, same, room.0), room.1, omega (arith, same', room.2)) is' (subst (λ (s : State). Arrives m' input out' s) lead w) e
