-- The state that stands in lent lists, by the numbers of its place.
-- Assumes nothing.
use Rattle.std.specs.Prelude.{◌≡◌, ◌&&◌, ◌∷◌, ◌+◌, ◌-◌, ◌≤◌, ◌<◌}
use Rattle.laws.specs.Basics.{refl, ◌∙◌, ap, Bool, true, false, List, [], ℕ, arith, eqb, ltb, leb, length, take, set, ne_eqb, eqb-true, lt-ltb, ltb-true, le-leb, leb-true, pick, by_bool}
use Rattle.laws.specs.{Truth.and_left, Truth.and_right}
use Rattle.whole_runs.specs.Listing.{most_records}
use Rattle.listing.specs.{Lines.longest_line, Printed.Printed}
use Rattle.machines.proofs.programs.Texts.{front_text}
use Rattle.words.specs.Layout.{state_size}
use Rattle.machine_replay.specs.declared.place.Place.{Place}
use Rattle.machine_replay.specs.Replaying.{starting, counted, opening, reading, printing, ending, failing, stopped}
use Rattle.machine_replay.specs.Standing.{least_input, bit_of, place_in, enough_room, inside, by_phase, state_in, between_in, plain_place, text_place, Holds, Lies}

module _ (words input out : ℕ) (h : enough_room words input out ≡ true) where
  pub enough_words : words ≡ state_size
  unfolding enough_room
  enough_words = eqb-true words state_size (and_left (eqb words state_size) (leb least_input input && leb longest_line out) h)

  pub enough_input : 8 ≤ input
  unfolding enough_room
  enough_input = leb-true least_input input (and_left (leb least_input input) (leb longest_line out) (and_right (eqb words state_size) (leb least_input input && leb longest_line out) h))

  pub enough_out : longest_line ≤ out
  unfolding enough_room
  enough_out = leb-true longest_line out (and_right (leb least_input input) (leb longest_line out) (and_right (eqb words state_size) (leb least_input input && leb longest_line out) h))

-- The numbers that lie inside.
pub record Inside (p : Place) (input out : ℕ) : Type 0 where
  pub few : p.count < most_records
  pub text : p.written ≤ out
  pub bytes : p.buffered ≤ input
  pub within : p.from + p.buffered ≤ input
  pub front : (p.phase ≡ 4 → ⊥) → (p.buffered < 4) × (p.from ≡ 0)

module _ (p : Place) (input out : ℕ) where
  abbrev last_test : Bool
  last_test = pick (eqb p.phase 4) true (ltb p.buffered 4 && eqb p.from 0)

  abbrev from_test : Bool
  from_test = leb p.from (input - p.buffered)

  pub inside_out : inside p input out ≡ true → Inside p input out
  unfolding inside
  inside_out h =
      let h1 = and_right (ltb p.count most_records) (leb p.written out && (leb p.buffered input && (from_test && last_test))) h in
      let h2 = and_right (leb p.written out) (leb p.buffered input && (from_test && last_test)) h1 in
      let h3 = and_right (leb p.buffered input) (from_test && last_test) h2 in
      let bytes = leb-true p.buffered input (and_left (leb p.buffered input) (from_test && last_test) h2) in
      let from = leb-true p.from (input - p.buffered) (and_left from_test last_test h3) in
      let last = and_right from_test last_test h3 in record {
        few = ltb-true p.count most_records (and_left (ltb p.count most_records) (leb p.written out && (leb p.buffered input && (from_test && last_test))) h);
        text = leb-true p.written out (and_left (leb p.written out) (leb p.buffered input && (from_test && last_test)) h1);
        bytes = bytes;
        within = omega arith;
        front = λ ne. let both : (ltb p.buffered 4 && eqb p.from 0) ≡ true = rw (ne_eqb p.phase 4 ne) at last in
            (ltb-true p.buffered 4 (and_left (ltb p.buffered 4) (eqb p.from 0) both), eqb-true p.from 0 (and_right (ltb p.buffered 4) (eqb p.from 0) both));
      }

  pub inside_in : p.count < most_records → p.written ≤ out → p.from + p.buffered ≤ input → last_test ≡ true → inside p input out ≡ true
  unfolding inside
  inside_in few text within last =
      rw (lt-ltb p.count most_records few, le-leb p.written out text, le-leb p.buffered input (omega arith), le-leb p.from (input - p.buffered) (omega arith), last)

module _ {p : Place} {words input out : List ℕ} (h : Holds p words input out) where
  pub in_lists : Inside p (length input) (length out)
  in_lists = inside_out p (length input) (length out) h.there

  pub lies_there : Lies p words input out
  lies_there = record { room = h.room; few = in_lists.few; within = in_lists.within }

  pub is_phase : state_in p words input out ≡ by_phase p words input out
  unfolding state_in
  is_phase = rw (h.room, h.there)

  pub is_starting : p.phase ≡ 0 → state_in p words input out ≡ starting
  unfolding by_phase
  is_starting e = is_phase ∙ rw e

  pub is_counted : p.phase ≡ 1 → state_in p words input out ≡ counted p.all
  unfolding by_phase
  is_counted e = is_phase ∙ rw e

  pub is_opening : p.phase ≡ 2 → state_in p words input out ≡ opening p.all
  unfolding by_phase
  is_opening e = is_phase ∙ rw e

  pub is_reading : p.phase ≡ 3 → state_in p words input out ≡ reading (between_in p words input)
  unfolding by_phase
  is_reading e = is_phase ∙ rw e

  pub is_printing : p.phase ≡ 4 → state_in p words input out ≡ printing (between_in p words input) (take p.written out)
  unfolding by_phase
  is_printing e = is_phase ∙ rw e

  pub is_ending : p.phase ≡ 5 → state_in p words input out ≡ ending (take p.written out)
  unfolding by_phase
  is_ending e = is_phase ∙ rw e

  pub is_failing : p.phase ≡ 6 → state_in p words input out ≡ failing (take p.written out)
  unfolding by_phase
  is_failing e = is_phase ∙ rw e

  pub is_stopped : (p.phase ≡ 0 → ⊥) → (p.phase ≡ 1 → ⊥) → (p.phase ≡ 2 → ⊥) → (p.phase ≡ 3 → ⊥) → (p.phase ≡ 4 → ⊥) → (p.phase ≡ 5 → ⊥) → (p.phase ≡ 6 → ⊥)
      → state_in p words input out ≡ stopped
  unfolding by_phase
  is_stopped a b c d e f g =
      is_phase ∙ rw (ne_eqb p.phase 0 a, ne_eqb p.phase 1 b, ne_eqb p.phase 2 c, ne_eqb p.phase 3 d, ne_eqb p.phase 4 e, ne_eqb p.phase 5 f, ne_eqb p.phase 6 g)

-- Numbers that do not lie inside.
pub outside_stopped : (p : Place) (words input out : List ℕ) → inside p (length input) (length out) ≡ false → state_in p words input out ≡ stopped
unfolding state_in
outside_stopped p words input out h = by_bool (enough_room (length words) (length input) (length out)) (λ e. rw (e, h)) (λ e. rw e)

pub narrow_stopped : (p : Place) (words input out : List ℕ) → enough_room (length words) (length input) (length out) ≡ false → state_in p words input out ≡ stopped
unfolding state_in
narrow_stopped p words input out h = rw h

-- A place that has a text and nothing else.
module _ (written : ℕ) (words input out : List ℕ) (room : enough_room (length words) (length input) (length out) ≡ true) (h : written ≤ length out) where
  text_there : (k : ℕ) → Holds (text_place k written) words input out
  unfolding text_place
  text_there k = record {
    room = room;
    there = inside_in (text_place k written) (length input) (length out) (omega arith) h (omega arith) (by_bool (eqb k 4) (λ e. rw e) (λ e. rw e));
  }

  pub text_ending : state_in (text_place 5 written) words input out ≡ ending (take written out)
  unfolding text_place
  text_ending = is_ending (text_there 5) refl

  pub text_failing : state_in (text_place 6 written) words input out ≡ failing (take written out)
  unfolding text_place
  text_failing = is_failing (text_there 6) refl

  pub text_stopped : state_in (text_place 7 written) words input out ≡ stopped
  unfolding text_place
  text_stopped =
      is_stopped (text_there 7)
      (λ e. omega arith) (λ e. omega arith) (λ e. omega arith) (λ e. omega arith) (λ e. omega arith) (λ e. omega arith) (λ e. omega arith)

  pub text_starting : state_in (text_place 0 written) words input out ≡ starting
  unfolding text_place
  text_starting = is_starting (text_there 0) refl

-- A text that was printed at the front of the buffer for lines.
module _ (words input out text then-out : List ℕ) (written : ℕ) (room : enough_room (length words) (length input) (length out) ≡ true) (printed : Printed out 0 text then-out written)
    (fits : written ≤ length out) (same : length then-out ≡ length out) where
  pub printed_ending : state_in (text_place 5 written) words input then-out ≡ ending text
  printed_ending = text_ending written words input then-out (rw same room) (omega (arith, fits, same)) ∙ ap ending (front_text out text then-out written printed fits)

  pub printed_failing : state_in (text_place 6 written) words input then-out ≡ failing text
  printed_failing = text_failing written words input then-out (rw same room) (omega (arith, fits, same)) ∙ ap failing (front_text out text then-out written printed fits)

-- A place with nothing but a way.
module _ (all : Bool) (words input out : List ℕ) (room : enough_room (length words) (length input) (length out) ≡ true) where
  plain_there : (k : ℕ) → Holds (plain_place k all) words input out
  unfolding plain_place
  plain_there k = record {
    room = room;
    there = inside_in (plain_place k all) (length input) (length out) (omega arith) (omega arith) (omega arith) (by_bool (eqb k 4) (λ e. rw e) (λ e. rw e));
  }

  pub plain_counted : state_in (plain_place 1 all) words input out ≡ counted all
  unfolding plain_place
  plain_counted = is_counted (plain_there 1) refl

  pub plain_opening : state_in (plain_place 2 all) words input out ≡ opening all
  unfolding plain_place
  plain_opening = is_opening (plain_there 2) refl

  pub plain_reading : state_in (plain_place 3 all) words input out ≡ reading (between_in (plain_place 3 all) words input)
  unfolding plain_place
  plain_reading = is_reading (plain_there 3) refl

-- The numbers of a place, stored.
bit_there : (b : Bool) → eqb (bit_of b) 1 ≡ b
unfolding bit_of
bit_there true = refl
bit_there false = refl

pub stored : (l : List ℕ) (p : Place) → 6 ≤ length l
    → place_in (set (set (set (set (set (set l 0 p.phase) 1 (bit_of p.all)) 2 p.count) 3 p.from) 4 p.buffered) 5 p.written) ≡ p
unfolding place_in
stored [] p h = absurd (omega arith)
stored (a ∷ []) p h = absurd (omega arith)
stored (a ∷ b ∷ []) p h = absurd (omega arith)
stored (a ∷ b ∷ c ∷ []) p h = absurd (omega arith)
stored (a ∷ b ∷ c ∷ d ∷ []) p h = absurd (omega arith)
stored (a ∷ b ∷ c ∷ d ∷ e ∷ []) p h = absurd (omega arith)
stored (a ∷ b ∷ c ∷ d ∷ e ∷ f ∷ l) p h = rw (bit_there p.all)
