-- What is lent stands for a state, before and after a step.
-- Assumes nothing.
use Rattle.std.specs.Prelude.{◌≡◌, ◌&&◌, ◌-◌, ◌*◌, ◌≤◌}
use Rattle.laws.specs.Basics.{refl, sym, ap, subst, true, false, List, ℕ, min, arith, eqb, leb, length, take, length-take-le, eqb-true, leb-true, by_bool}
use Rattle.laws.specs.Truth.{and_left, and_right}
use Rattle.whole_runs.specs.Listing.{most_records}
use Rattle.machines.specs.Machines.{Read, Answer, stepped}
use Rattle.machines.specs.Forms.{Asks, request_of_def, Placed, GoesTo, answer_of}
use Rattle.machines.proofs.Driving.{stands_as, still_stands}
use Rattle.machine_record.specs.declared.marks.Marks.{Marks}
use Rattle.machine_record.specs.{Machine.State, Machine.stopped, Machine.machine, Machine.ask, Machine.next, Machine.most_to_read, Machine.block_bytes, Played.block_lines}
use Rattle.machine_record.specs.Lent.{has_room_of, marks_of, in_bounds_of, position_of, state_in, is_state, state_of, place_of, asks_for, StandsFor, Arrives}
use Rattle.machines.specs.declared.Request as requests
use Rattle.machines.specs.declared.Request.TheVariants as request
use Rattle.machines.specs.declared.Answer as answers

-- What the bounds of the numbers are.
pub record Bounded (m : Marks) (out : ℕ) : Type 0 where
  pub left : m.left ≤ 4000000001
  pub done : m.done ≤ most_records
  pub kept : m.kept ≤ 3
  pub size : m.size ≤ out
  pub pending : m.pending ≤ block_lines

pub bounded : (m : Marks) (out : ℕ) → in_bounds_of m out ≡ true → Bounded m out
unfolding in_bounds_of
bounded m out h =
    let a = leb m.left 4000000001 in
    let b = leb m.done most_records in
    let c = leb m.kept 3 in
    let d = leb m.size out in
    let e = leb m.pending block_lines in
    let bs = and_right a (b && (c && (d && e))) h in
    let cs = and_right b (c && (d && e)) bs in
    let ds = and_right c (d && e) cs in
    record {
      left = leb-true m.left 4000000001 (and_left a (b && (c && (d && e))) h);
      done = leb-true m.done most_records (and_left b (c && (d && e)) bs);
      kept = leb-true m.kept 3 (and_left c (d && e) cs);
      size = leb-true m.size out (and_left d e ds);
      pending = leb-true m.pending block_lines (and_right d e ds);
    }

-- There is room.
pub record Room (memory words input out lines : ℕ) : Type 0 where
  pub memory_room : 6 ≤ memory
  pub words_room : words ≡ 6464
  pub input_room : 4099 ≤ input
  pub out_room : block_lines ≤ out
  pub lines_room : block_lines ≤ lines

pub enough_room : (memory words input out lines : ℕ) → has_room_of memory words input out lines ≡ true → Room memory words input out lines
unfolding has_room_of
enough_room memory words input out lines h =
    let a = leb 6 memory in
    let b = eqb words 6464 in
    let c = leb 4099 input in
    let d = leb block_lines out in
    let e = leb block_lines lines in
    let bs = and_right a (b && (c && (d && e))) h in
    let cs = and_right b (c && (d && e)) bs in
    let ds = and_right c (d && e) cs in
    record {
      memory_room = leb-true 6 memory (and_left a (b && (c && (d && e))) h);
      words_room = eqb-true words 6464 (and_left b (c && (d && e)) bs);
      input_room = leb-true 4099 input (and_left c (d && e) cs);
      out_room = leb-true block_lines out (and_left d e ds);
      lines_room = leb-true block_lines lines (and_right d e ds);
    }

-- What is asked for.
module _ (m : Marks) (words input out lines : List ℕ) (b : Bounded m (length out)) (long : 4099 ≤ length input) where
  abbrev Asked : Type 0
  Asked = Asks (asks_for m) m.kept input out (ask (state_in m words input out lines))

  kept_length : length (take m.kept input) ≡ m.kept
  kept_length = length-take-le m.kept input (omega (arith, b.kept, long))

  read_most : Read (min block_bytes (4 * (most_records - m.done)) - m.kept) ≡ Read (most_to_read (position_of m words input))
  unfolding most_to_read
  read_most = ap (λ (k : ℕ). Read (min block_bytes (4 * (most_records - m.done)) - k)) (sym kept_length)

  pub asks : Asked
  unfolding asks_for state_in ask request_of_def Placed GoesTo
  asks = by_bool (eqb m.phase 1) (λ p1. rw p1 (record { stands = refl; inside = tt; there = tt }))
      (λ n1. by_bool (eqb m.phase 2) (λ p2. rw (n1, p2) (record { stands = refl; inside = omega (arith, b.kept, long); there = refl }))
      (λ n2. by_bool (eqb m.phase 3) (λ p3. rw (n1, n2, p3) (record { stands = refl; inside = omega (arith, b.kept, long); there = refl }))
      (λ n3. by_bool (eqb m.phase 4) (λ p4. rw (n1, n2, n3, p4) (record { stands = refl; inside = b.size; there = tt }))
      (λ n4. by_bool (eqb m.phase 5) (λ p5. rw (n1, n2, n3, n4, p5) (record { stands = refl; inside = b.size; there = tt }))
      (λ n5. by_bool (eqb m.phase 6) (λ p6. rw (n1, n2, n3, n4, n5, p6) (record { stands = read_most; inside = omega (arith, b.kept, long); there = refl }))
      (λ n6. by_bool (eqb m.phase 7) (λ p7. rw (n1, n2, n3, n4, n5, n6, p7) (record { stands = refl; inside = b.size; there = tt }))
      (λ n7. by_bool (eqb m.phase 8) (λ p8. rw (n1, n2, n3, n4, n5, n6, n7, p8) (record { stands = refl; inside = b.size; there = tt }))
      (λ n8. rw (n1, n2, n3, n4, n5, n6, n7, n8) (record { stands = refl; inside = tt; there = tt })))))))))

-- What stands for no state has stopped, and stays so.
pub not_state : (memory words input out lines : List ℕ) (a : Answer) → is_state (length memory) (marks_of memory) (length words) (length input) (length out) (length lines) ≡ false
    → StandsFor memory words input out lines request.Stop (stepped machine (state_of memory words input out lines) a)
unfolding state_of stepped next ask
not_state memory words input out lines a h = still_stands machine (state_of memory words input out lines) stopped (place_of memory) input out a (rw h) refl refl

pub no_room : (memory : ℕ) (m : Marks) (words input out lines : ℕ) → has_room_of memory words input out lines ≡ false → is_state memory m words input out lines ≡ false
unfolding is_state
no_room memory m words input out lines h = rw h refl

pub no_bounds : (memory : ℕ) (m : Marks) (words input out lines : ℕ) → has_room_of memory words input out lines ≡ true → in_bounds_of m out ≡ false → is_state memory m words input out lines ≡ false
unfolding is_state
no_bounds memory m words input out lines h k = rw (h, k) refl

place_kept : (memory : List ℕ) (m : Marks) → marks_of memory ≡ m → place_of memory ≡ m.kept
unfolding marks_of
place_kept memory m e = ap (λ (x : Marks). x.kept) e

-- The numbers of a state are put.
pub put_stands : (memory words input out lines : List ℕ) (m : Marks) (r : requests.Request) (s : State) → has_room_of (length memory) (length words) (length input) (length out) (length lines) ≡ true → marks_of memory ≡ m → Arrives m words input out lines s → r ≡ asks_for m
    → StandsFor memory words input out lines r s
unfolding state_of is_state
put_stands memory words input out lines m r s room is w e =
    let b = bounded m (length out) w.bounds in
    let long = (enough_room _ _ _ _ _ room).input_room in
    record {
      state = rw (room, is, w.bounds) w.state;
      asks = rw (place_kept memory m is, e) (subst (λ (x : State). Asks (asks_for m) m.kept input out (ask x)) w.state (asks m words input out lines b long));
    }

-- The state before a step.
pub state_is : (memory words input out lines : List ℕ) (m : Marks) → has_room_of (length memory) (length words) (length input) (length out) (length lines) ≡ true → m ≡ marks_of memory → in_bounds_of m (length out) ≡ true
    → state_of memory words input out lines ≡ state_in m words input out lines
unfolding state_of is_state
state_is memory words input out lines m room is inside = rw (room, ← is, inside) refl

pub room_kept : (m w i o l m' w' i' o' l' : ℕ) → m' ≡ m → w' ≡ w → i' ≡ i → o' ≡ o → l' ≡ l → has_room_of m w i o l ≡ true → has_room_of m' w' i' o' l' ≡ true
room_kept m w i o l m' w' i' o' l' a b c d e h = rw (a, b, c, d, e) h

pub step_stands : (memory words input out lines memory' words' input' out' lines' : List ℕ) (m m' : Marks) (r : requests.Request) (a : answers.Answer)
    → has_room_of (length memory) (length words) (length input) (length out) (length lines) ≡ true → m ≡ marks_of memory → in_bounds_of m (length out) ≡ true
    → has_room_of (length memory') (length words') (length input') (length out') (length lines') ≡ true → marks_of memory' ≡ m'
    → Arrives m' words' input' out' lines' (stepped machine (state_in m words input out lines) (answer_of a m.kept input)) → r ≡ asks_for m'
    → StandsFor memory' words' input' out' lines' r (stepped machine (state_of memory words input out lines) (answer_of a (place_of memory) input))
step_stands memory words input out lines memory' words' input' out' lines' m m' r a room is inside room' is' w e =
    let same : stepped machine (state_of memory words input out lines) (answer_of a (place_of memory) input) ≡ stepped machine (state_in m words input out lines) (answer_of a m.kept input) =
    λ j. stepped machine (state_is memory words input out lines m room is inside j) (answer_of a (place_kept memory m (sym is) j) input) in
    stands_as machine same (put_stands memory' words' input' out' lines' m' r _ room' is' w e)
