-- Which state the lent numbers and buffers stand for once a phase and a count are put.
-- Assumes nothing.
use Rattle.std.specs.Prelude.{◌≡◌, ◌∷◌, ◌+◌, ◌-◌, ◌≤◌, ◌<◌}
use Rattle.laws.specs.Basics.{refl, sym, ◌∙◌, ap, Bool, true, false, List, [], ℕ, zero, suc, arith, leb, length, get_or, take, drop, set, length-set, get_or-set_same, get_or-set_other, length-take-le, eq-eqb, ne_eqb, lt-ltb, le-ltb, le-leb, pick, by_eq}
use Rattle.laws.specs.Choice.{pick_same}
use Rattle.machines.specs.Forms.{request_of_def, Placed, GoesTo}
use Rattle.machines.proofs.Driving.{stopped_stands}
use Rattle.machine_judge.specs.{Text.longest_verdict, Words.EnoughRoom, Words.lacks_room_of, Words.in_phase, Words.state_of, Words.place_of, Words.StandsFor}
use Rattle.machine_judge.specs.Judging.{most_read, wanted, settled, Reading, Printing, Failing, Stopped, ask, printing, onward, judging}
use Rattle.machines.specs.declared.Request as requests
use Rattle.machines.specs.declared.Request.TheVariants as request

-- No more is asked for than there is room for.
pub wanted_fits : (buffered : ℕ) → buffered ≤ most_read → buffered + wanted buffered ≤ most_read
unfolding wanted
wanted_fits buffered h = by_eq buffered 0 (λ e. rw (eq-eqb buffered 0 e) (omega arith)) (λ e. rw (ne_eqb buffered 0 e) (omega arith))

-- Room, as a test and as a fact.
pub room_is : (memory input out : ℕ) → EnoughRoom memory input out → lacks_room_of memory input out ≡ false
unfolding lacks_room_of
room_is memory input out (a, b, c) = rw (le-ltb memory 2 a, le-ltb input most_read b, le-ltb out longest_verdict c)

pub phase_read : (count : ℕ) (input out : List ℕ) → count ≤ most_read → in_phase 0 count input out ≡ Reading (take count input)
unfolding in_phase
phase_read count input out h = rw (le-leb count most_read h)

pub phase_printed : (count : ℕ) (input out : List ℕ) → count ≤ length out → in_phase 1 count input out ≡ Printing (take count out)
unfolding in_phase
phase_printed count input out h = rw (le-leb count (length out) h)

phase_failed : (count : ℕ) (input out : List ℕ) → count ≤ length out → in_phase 2 count input out ≡ Failing (take count out)
unfolding in_phase
phase_failed count input out h = rw (le-leb count (length out) h)

module _ (memory input out : List ℕ) where
  pub state_in : EnoughRoom (length memory) (length input) (length out) → state_of memory input out ≡ in_phase (get_or memory 0 0) (get_or memory 1 0) input out
  unfolding state_of
  state_in room = rw (room_is (length memory) (length input) (length out) room)

-- What a phase and a count leave, once they are put.
module _ (memory after : List ℕ) (phase count : ℕ) (is : after ≡ set (set memory 0 phase) 1 count) (two : 2 ≤ length memory) where
  put_phase : get_or after 0 0 ≡ phase
  put_phase =
      ap (λ (l : List ℕ). get_or l 0 0) is
      ∙ get_or-set_other (set memory 0 phase) 1 0 count 0 (omega arith)
      ∙ get_or-set_same memory 0 phase 0 (omega arith)

  put_count : get_or after 1 0 ≡ count
  put_count = ap (λ (l : List ℕ). get_or l 1 0) is ∙ get_or-set_same (set memory 0 phase) 1 count 0 (omega (arith, length-set memory 0 phase))

  put_length : length after ≡ length memory
  put_length = ap length is ∙ length-set (set memory 0 phase) 1 count ∙ length-set memory 0 phase

-- What these numbers stand for, and the request with them.
module _ (memory after input out : List ℕ) (room : EnoughRoom (length memory) (length input) (length out)) where
  state_put : (phase count : ℕ) → after ≡ set (set memory 0 phase) 1 count → state_of after input out ≡ in_phase phase count input out
  state_put phase count is =
      state_in after input out (omega (arith, put_length memory after phase count is room.0), room.1, room.2)
      ∙ ap (λ (p : ℕ). in_phase p (get_or after 1 0) input out) (put_phase memory after phase count is room.0)
      ∙ ap (λ (k : ℕ). in_phase phase k input out) (put_count memory after phase count is room.0)

  pub reading_after : (buffered most : ℕ) → after ≡ set (set memory 0 0) 1 buffered → most ≡ wanted buffered → buffered ≤ most_read
      → StandsFor after input out (request.Read buffered most) (Reading (take buffered input))
  unfolding request_of_def Placed GoesTo ask
  reading_after buffered most is asks h = record {
    state = state_put 0 buffered is ∙ phase_read buffered input out h;
    asks = record {
      stands = rw (length-take-le buffered input (omega (arith, h, room.1)), asks);
      inside = omega (arith, asks, wanted_fits buffered h, room.1);
      there = sym (put_count memory after 0 buffered is room.0);
    };
  }

  pub printing_after : (size : ℕ) (line : List ℕ) → after ≡ set (set memory 0 1) 1 size → size ≤ length out → take size out ≡ line
      → StandsFor after input out (request.Write size) (Printing line)
  unfolding request_of_def Placed GoesTo ask
  printing_after size line is h e = record {
    state = state_put 1 size is ∙ phase_printed size input out h ∙ ap Printing e;
    asks = record { stands = rw e; inside = h; there = tt };
  }

  pub failing_after : (size : ℕ) (name : List ℕ) → after ≡ set (set memory 0 2) 1 size → size ≤ length out → take size out ≡ name
      → StandsFor after input out (request.Fail size) (Failing name)
  unfolding request_of_def Placed GoesTo ask
  failing_after size name is h e = record {
    state = state_put 2 size is ∙ phase_failed size input out h ∙ ap Failing e;
    asks = record { stands = rw e; inside = h; there = tt };
  }

-- A machine that has stopped, whatever the buffers.
pub stopped_after : (memory after : List ℕ) → after ≡ set (set memory 0 3) 1 0 → 2 ≤ length memory → (input out : List ℕ) → StandsFor after input out request.Stop Stopped
unfolding state_of in_phase ask
stopped_after memory after is two input out =
    let short = lacks_room_of (length after) (length input) (length out) in
    stopped_stands judging (state_of after input out) Stopped (place_of after) input out
    (ap (λ (p : ℕ). pick short Stopped (in_phase p (get_or after 1 0) input out)) (put_phase memory after 3 0 is two) ∙ pick_same short Stopped)
    refl

-- The verdict is settled, by the tests of the code.
module _ (input : List ℕ) (buffered : ℕ) (fits : buffered ≤ length input) where
  pub settled_none : buffered ≡ 0 → false ≡ settled (take buffered input)
  unfolding settled
  settled_none e = rw e

  front : 1 ≤ buffered → take buffered input ≡ get_or input 0 0 ∷ take (buffered - 1) (drop 1 input)
  front h = ap (λ (k : ℕ). take k input) (sym (up buffered h)) ∙ take_front (buffered - 1) input (omega arith)
    where
      up : (k : ℕ) → 1 ≤ k → suc (k - 1) ≡ k
      up zero h = absurd (omega arith)
      up (suc k) h = omega arith

      take_front : (k : ℕ) (l : List ℕ) → 1 ≤ length l → take (suc k) l ≡ get_or l 0 0 ∷ take k (drop 1 l)
      take_front k [] h = absurd (omega arith)
      take_front k (x ∷ l) h = refl

  many : 1 ≤ buffered → length (get_or input 0 0 ∷ take (buffered - 1) (drop 1 input)) ≡ buffered
  many h = ap length (sym (front h)) ∙ length-take-le buffered input fits

  pub settled_low : 1 ≤ buffered → get_or input 0 0 < 1 → true ≡ settled (take buffered input)
  unfolding settled
  settled_low h low = rw (front h, lt-ltb (get_or input 0 0) 1 low)

  pub settled_high : 1 ≤ buffered → 1 ≤ get_or input 0 0 → 16 < get_or input 0 0 → true ≡ settled (take buffered input)
  unfolding settled
  settled_high h low high = rw (front h, le-ltb (get_or input 0 0) 1 low, lt-ltb 16 (get_or input 0 0) high)

  pub settled_long : 1 ≤ buffered → 1 ≤ get_or input 0 0 → get_or input 0 0 ≤ 16 → leb most_read buffered ≡ settled (take buffered input)
  unfolding settled
  settled_long h low high = rw (front h, le-ltb (get_or input 0 0) 1 low, le-ltb 16 (get_or input 0 0) high) (ap (leb most_read) (sym (many h)))

-- What follows on bytes that were read, by whether they settle the verdict.
module _ (memory input out : List ℕ) (r : requests.Request) (trace : List ℕ) where
  pub onward_printed : {b : Bool} → b ≡ settled trace → b ≡ true → StandsFor memory input out r (printing trace) → StandsFor memory input out r (onward trace)
  unfolding onward
  onward_printed e t h = rw (sym e ∙ t) h

  pub onward_read : {b : Bool} → b ≡ settled trace → b ≡ false → StandsFor memory input out r (Reading trace) → StandsFor memory input out r (onward trace)
  unfolding onward
  onward_read e t h = rw (sym e ∙ t) h
