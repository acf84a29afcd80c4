-- What is lent stands for a state, before and after a step.
-- Assumes nothing.
use Rattle.std.specs.Prelude.{◌≡◌, ◌&&◌, ◌-◌, ◌≤◌}
use Rattle.laws.specs.Basics.{refl, sym, ap, subst, true, false, List, ℕ, arith, eqb, leb, length, take, length-take-le, eqb-true, leb-true, by_bool}
use Rattle.laws.specs.Truth.{and_left, and_right}
use Rattle.machines.specs.Machines.{Read, Answer, stepped}
use Rattle.machines.specs.Forms.{Asks, request_of_def, Placed, GoesTo, answer_of}
use Rattle.machines.proofs.Driving.{stands_as, still_stands}
use Rattle.machine_console.specs.declared.marks.Marks.{Marks}
use Rattle.machine_console.specs.{Consoling.State, Consoling.Stopped, Consoling.consoling, Consoling.ask, Consoling.next, Text.call_size}
use Rattle.machine_console.specs.Replied.{longest_line}
use Rattle.machine_console.specs.Lent.{has_room_of, marks_of, most_done_of, in_bounds_of, state_in, is_state, state_of, place_of, asks_for, StandsFor, Arrives}
use Rattle.machines.specs.declared.Request as requests
use Rattle.machines.specs.declared.Request.TheVariants as request
use Rattle.machines.specs.declared.Answer as answers

-- What the bounds of the numbers are.
pub record Bounded (m : Marks) (out : ℕ) : Type 0 where
  pub done : m.done ≤ most_done_of m.phase
  pub kept : m.kept ≤ 7
  pub size : m.size ≤ out

pub bounded : (m : Marks) (out : ℕ) → in_bounds_of m out ≡ true → Bounded m out
unfolding in_bounds_of
bounded m out h =
    let a = leb m.done (most_done_of m.phase) in
    let b = leb m.kept 7 in
    let d = leb m.size out in
    let bs = and_right a (b && d) h in
    record {
      done = leb-true m.done (most_done_of m.phase) (and_left a (b && d) h);
      kept = leb-true m.kept 7 (and_left b d bs);
      size = leb-true m.size out (and_right b d bs);
    }

-- There is room.
pub record Room (memory words input out : ℕ) : Type 0 where
  pub memory_room : 4 ≤ memory
  pub words_room : words ≡ 6464
  pub input_room : 8 ≤ input
  pub out_room : longest_line ≤ out

pub enough_room : (memory words input out : ℕ) → has_room_of memory words input out ≡ true → Room memory words input out
unfolding has_room_of
enough_room memory words input out h =
    let a = leb 4 memory in
    let b = eqb words 6464 in
    let c = leb 8 input in
    let d = leb longest_line out in
    let bs = and_right a (b && (c && d)) h in
    let cs = and_right b (c && d) bs in
    record {
      memory_room = leb-true 4 memory (and_left a (b && (c && d)) h);
      words_room = eqb-true words 6464 (and_left b (c && d) bs);
      input_room = leb-true 8 input (and_left c d cs);
      out_room = leb-true longest_line out (and_right c d cs);
    }

-- What is asked for.
module _ (m : Marks) (words input out : List ℕ) (b : Bounded m (length out)) (long : 8 ≤ length input) where
  abbrev Asked : Type 0
  Asked = Asks (asks_for m) m.kept input out (ask (state_in m words input out))

  read_most : Read (call_size - m.kept) ≡ Read (call_size - length (take m.kept input))
  read_most = ap (λ (k : ℕ). Read (call_size - k)) (sym (length-take-le m.kept input (omega (arith, b.kept, long))))

  pub asks : Asked
  unfolding asks_for state_in ask request_of_def Placed GoesTo
  asks = by_bool (eqb m.phase 1) (λ p1. rw p1 (record { stands = refl; inside = omega (arith, b.kept, long); there = refl }))
      (λ n1. by_bool (eqb m.phase 2) (λ p2. rw (n1, p2) (record { stands = read_most; inside = omega (arith, b.kept, long); there = refl }))
      (λ n2. by_bool (eqb m.phase 3) (λ p3. rw (n1, n2, p3) (record { stands = refl; inside = b.size; there = tt }))
      (λ n3. by_bool (eqb m.phase 4) (λ p4. rw (n1, n2, n3, p4) (record { stands = refl; inside = b.size; there = tt }))
      (λ n4. by_bool (eqb m.phase 5) (λ p5. rw (n1, n2, n3, n4, p5) (record { stands = refl; inside = b.size; there = tt }))
      (λ n5. rw (n1, n2, n3, n4, n5) (record { stands = refl; inside = tt; there = tt }))))))

-- What stands for no state has stopped, and stays so.
pub not_state : (memory words input out : List ℕ) (a : Answer) → is_state (length memory) (marks_of memory) (length words) (length input) (length out) ≡ false
    → StandsFor memory words input out request.Stop (stepped consoling (state_of memory words input out) a)
unfolding state_of stepped next ask
not_state memory words input out a h = still_stands consoling (state_of memory words input out) Stopped (place_of memory) input out a (rw h) refl refl

pub no_room : (memory : ℕ) (m : Marks) (words input out : ℕ) → has_room_of memory words input out ≡ false → is_state memory m words input out ≡ false
unfolding is_state
no_room memory m words input out h = rw h refl

pub no_bounds : (memory : ℕ) (m : Marks) (words input out : ℕ) → has_room_of memory words input out ≡ true → in_bounds_of m out ≡ false → is_state memory m words input out ≡ false
unfolding is_state
no_bounds memory m words input out h k = rw (h, k) refl

place_kept : (memory : List ℕ) (m : Marks) → marks_of memory ≡ m → place_of memory ≡ m.kept
unfolding marks_of
place_kept memory m e = ap (λ (x : Marks). x.kept) e

-- The numbers of a state are put.
pub put_stands : (memory words input out : List ℕ) (m : Marks) (r : requests.Request) (s : State) → has_room_of (length memory) (length words) (length input) (length out) ≡ true → marks_of memory ≡ m → Arrives m words input out s → r ≡ asks_for m
    → StandsFor memory words input out r s
unfolding state_of is_state
put_stands memory words input out m r s room is w e =
    let b = bounded m (length out) w.bounds in
    let long = (enough_room _ _ _ _ room).input_room in
    record {
      state = rw (room, is, w.bounds) w.state;
      asks = rw (place_kept memory m is, e) (subst (λ (x : State). Asks (asks_for m) m.kept input out (ask x)) w.state (asks m words input out b long));
    }

-- The state before a step.
pub state_is : (memory words input out : List ℕ) (m : Marks) → has_room_of (length memory) (length words) (length input) (length out) ≡ true → m ≡ marks_of memory → in_bounds_of m (length out) ≡ true
    → state_of memory words input out ≡ state_in m words input out
unfolding state_of is_state
state_is memory words input out m room is inside = rw (room, ← is, inside) refl

pub room_kept : (m w i o m' w' i' o' : ℕ) → m' ≡ m → w' ≡ w → i' ≡ i → o' ≡ o → has_room_of m w i o ≡ true → has_room_of m' w' i' o' ≡ true
room_kept m w i o m' w' i' o' a b c d h = rw (a, b, c, d) h

pub step_stands : (memory words input out memory' words' input' out' : List ℕ) (m m' : Marks) (r : requests.Request) (a : answers.Answer)
    → has_room_of (length memory) (length words) (length input) (length out) ≡ true → m ≡ marks_of memory → in_bounds_of m (length out) ≡ true
    → has_room_of (length memory') (length words') (length input') (length out') ≡ true → marks_of memory' ≡ m'
    → Arrives m' words' input' out' (stepped consoling (state_in m words input out) (answer_of a m.kept input)) → r ≡ asks_for m'
    → StandsFor memory' words' input' out' r (stepped consoling (state_of memory words input out) (answer_of a (place_of memory) input))
step_stands memory words input out memory' words' input' out' m m' r a room is inside room' is' w e =
    let same : stepped consoling (state_of memory words input out) (answer_of a (place_of memory) input) ≡ stepped consoling (state_in m words input out) (answer_of a m.kept input) =
    λ j. stepped consoling (state_is memory words input out m room is inside j) (answer_of a (place_kept memory m (sym is) j) input) in
    stands_as consoling same (put_stands memory' words' input' out' m' r _ room' is' w e)
