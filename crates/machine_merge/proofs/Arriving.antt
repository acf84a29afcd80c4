-- The numbers of a state, and the states that they stand for.
-- Assumes nothing.
use Rattle.std.specs.Prelude.{◌≡◌, ◌++◌, ◌+◌, ◌-◌, ◌≤◌, ◌<◌}
use Rattle.laws.specs.Basics.{refl, sym, ◌∙◌, ap, subst, false, List, ℕ, arith, eqb, length, take, drop, length-append, length-drop, length-take-le, by_bool}
use Rattle.listing.specs.Printed.{Printed}
use Rattle.listing.proofs.Texts.{then}
use Rattle.machines.proofs.programs.Texts.{printed_inside, printed_front}
use Rattle.machines.specs.Machines.{Argument, Open, Write, Say, Fail, Answer, stepped}
use Rattle.machines.specs.Forms.{request_of_def, Placed, GoesTo, Asks}
use Rattle.machine_merge.specs.declared.marks.Marks.{Marks}
use Rattle.machine_merge.specs.Buffered.{most_kept_of, most_counted}
use Rattle.machine_merge.specs.Merging.{longest_word, longest_name, FirstHalf, SecondHalf, State, Counting, Setting, Naming, Opening, Reading, Writing, Reporting, Failing, Stopped, prefix, file_text, word_of_def, ask, next, merging}
use Rattle.machine_merge.specs.Words.{longest_trace, Fits, at_phase, name_at, stage_of, name_of, kept_of, state_in, place_in, word_at, asks_for, Arrives}
use Rattle.machine_merge.proofs.{Parts.name_most, Parts.read_most, Parts.wanted_most, Marking.in_bounds, Leading.file_text_some}

pub led : {m : Marks} {input out : List ℕ} {s t : State} → t ≡ s → Arrives m input out s → Arrives m input out t
led {m} {input} {out} e w = subst (λ (x : State). Arrives m input out x) (sym e) w

-- Nothing but a text.
module _ (input out : List ℕ) where
  plain : (phase size : ℕ) (s : State) → size ≤ length out → state_in (at_phase phase size) input out ≡ s → Asks (asks_for (at_phase phase size)) (place_in (at_phase phase size)) input out (ask s)
      → Arrives (at_phase phase size) input out s
  plain phase size s inside is asks = record { bounds = in_bounds _ (length out) (omega arith, omega arith, omega arith) (omega arith) inside; state = is; asks = asks }

  pub arrives_stopped : Arrives (at_phase 0 0) input out Stopped
  unfolding state_in asks_for place_in request_of_def Placed GoesTo ask
  arrives_stopped = plain 0 0 Stopped (omega arith) refl (record { stands = refl; inside = tt; there = tt })

  pub arrives_counting : Arrives (at_phase 1 0) input out Counting
  unfolding state_in asks_for place_in request_of_def Placed GoesTo ask
  arrives_counting = plain 1 0 Counting (omega arith) refl (record { stands = refl; inside = tt; there = tt })

  pub arrives_setting : longest_word ≤ length input → Arrives (at_phase 2 0) input out Setting
  unfolding state_in asks_for place_in request_of_def Placed GoesTo ask
  arrives_setting h = plain 2 0 Setting (omega arith) refl (record { stands = refl; inside = omega (arith, h); there = refl })

  module _ (size : ℕ) (text : List ℕ) (inside : size ≤ length out) (front : take size out ≡ text) where
    pub arrives_writing : Arrives (at_phase 6 size) input out (Writing text)
    unfolding state_in asks_for place_in request_of_def Placed GoesTo ask
    arrives_writing = plain 6 size (Writing text) inside (ap Writing front) (record { stands = ap Write front; inside = inside; there = tt })

    arrives_reporting : Arrives (at_phase 7 size) input out (Reporting text)
    unfolding state_in asks_for place_in request_of_def Placed GoesTo ask
    arrives_reporting = plain 7 size (Reporting text) inside (ap Reporting front) (record { stands = ap Say front; inside = inside; there = tt })

    arrives_failing : Arrives (at_phase 8 size) input out (Failing text)
    unfolding state_in asks_for place_in request_of_def Placed GoesTo ask
    arrives_failing = plain 8 size (Failing text) inside (ap Failing front) (record { stands = ap Fail front; inside = inside; there = tt })

-- A text that was printed to the front.
module _ (out text out' : List ℕ) (size : ℕ) (fits : length text ≤ length out) (p : Printed out 0 text out' size) (input : List ℕ) where
  pub printed_reporting : Arrives (at_phase 7 size) input out' (Reporting text)
  printed_reporting = arrives_reporting input out' size text (printed_inside out text out' size fits p) (printed_front out text out' size fits p)

  pub printed_failing : Arrives (at_phase 8 size) input out' (Failing text)
  printed_failing = arrives_failing input out' size text (printed_inside out text out' size fits p) (printed_front out text out' size fits p)

-- A file is named, opened, read.
word_is : (m : Marks) (input : List ℕ) → word_at m.half ≡ word_of_def (stage_of m input)
unfolding word_at stage_of word_of_def
word_is m input = by_bool (eqb m.half 0) (λ e. rw e refl) (λ e. rw e refl)

abbrev pub naming_at : ℕ → ℕ → ℕ → Marks
naming_at half set first = record { phase = 3; half = half; set = set; first = first; name = 0; count = 0; size = 0 }

pub arrives_naming : (half set first : ℕ) (input out : List ℕ) → set ≤ 4294967295 → first ≤ most_kept_of → longest_word ≤ length input
    → Arrives (naming_at half set first) input out (Naming (stage_of (naming_at half set first) input))
unfolding state_in asks_for place_in request_of_def Placed GoesTo ask
arrives_naming half set first input out a b long = record {
  bounds = in_bounds (naming_at half set first) (length out) (a, b, omega arith) (omega arith) (omega arith);
  state = refl;
  asks = record {
    stands = ap (λ (k : ℕ). Argument k longest_name) (word_is (naming_at half set first) input);
    inside = omega (arith, name_most half, long);
    there = refl;
  };
}

pub arrives_first : (set : ℕ) (input out : List ℕ) → set ≤ 4294967295 → longest_word ≤ length input → Arrives (naming_at 0 set 0) input out (Naming (FirstHalf set))
unfolding stage_of
arrives_first set input out a long = arrives_naming 0 set 0 input out a (omega arith) long

pub arrives_second : (set first : ℕ) (input out : List ℕ) → set ≤ 4294967295 → first ≤ most_kept_of → longest_word ≤ length input
    → Arrives (naming_at 1 set first) input out (Naming (SecondHalf set (take first (drop longest_name input))))
unfolding stage_of
arrives_second set first input out a b long = arrives_naming 1 set first input out a b long

abbrev pub opening_at : Marks → ℕ → Marks
opening_at m name = record { phase = 4; half = m.half; set = m.set; first = m.first; name = name; count = 0; size = 0 }

abbrev pub reading_at : Marks → ℕ → Marks
reading_at m count = record { phase = 5; half = m.half; set = m.set; first = m.first; name = m.name; count = count; size = 0 }

module _ (m : Marks) (input out : List ℕ) (fits : Fits m) where
  pub arrives_opening : (name : ℕ) → name ≤ longest_name → name ≤ length out → take name out ≡ take name (drop (name_at m.half) input)
      → Arrives (opening_at m name) input out (Opening (stage_of m input) (take name (drop (name_at m.half) input)))
  unfolding state_in asks_for place_in request_of_def Placed GoesTo ask stage_of name_of
  arrives_opening name short inside front = record {
    bounds = in_bounds (opening_at m name) (length out) (fits.0, fits.1, short) (omega arith) (omega arith);
    state = refl;
    asks = record { stands = ap Open front; inside = inside; there = tt };
  }

  pub arrives_reading : (count : ℕ) → count < most_counted → longest_word ≤ length input
      → Arrives (reading_at m count) input out (Reading (stage_of m input) (name_of m input) (kept_of m.half count input) count)
  unfolding state_in asks_for place_in request_of_def Placed GoesTo ask stage_of name_of
  arrives_reading count short long = record {
    bounds = in_bounds (reading_at m count) (length out) fits short (omega arith);
    state = refl;
    asks = record { stands = refl; inside = omega (arith, read_most m.half count, wanted_most count, long); there = refl };
  }

-- A name that was printed.
module _ (m : Marks) (input : List ℕ) (long : longest_word ≤ length input) (name from : ℕ) (short : name ≤ longest_name) (is : from ≡ name_at m.half) where
  abbrev word : List ℕ
  word = take name (drop (name_at m.half) input)

  abbrev slice : List ℕ
  slice = take ((from + name) - from) (drop from input)

  slice_is : slice ≡ word
  slice_is =
      let same : (from + name) - from ≡ name = omega arith in
      ap (λ (k : ℕ). take k (drop from input)) same ∙ ap (λ (k : ℕ). take name (drop k input)) is

  word_length : length word ≡ name
  word_length = length-take-le name (drop (name_at m.half) input) (omega (arith, length-drop (name_at m.half) input, name_most m.half, long, short))

  pub printed_opening : (out out' : List ℕ) (size : ℕ) → Fits m → longest_trace ≤ length out → Printed out 0 slice out' size
      → Arrives (opening_at m name) input out' (Opening (stage_of m input) word)
  printed_opening out out' size fits room p =
      let q : Printed out 0 word out' size = subst (λ (t : List ℕ). Printed out 0 t out' size) slice_is p in
      let small : length word ≤ length out = omega (arith, word_length, short, room) in
      let whole : size ≡ name = omega (arith, q.next_place, word_length) in
      let inside : size ≤ length out' = printed_inside out word out' size small q in
      arrives_opening m input out' fits name short (omega (arith, whole, inside)) (ap (λ (k : ℕ). take k out') (sym whole) ∙ printed_front out word out' size small q)

  pub printed_file : (out out' out'' : List ℕ) (place size : ℕ) → (name ≡ 0 → ⊥) → longest_trace ≤ length out → Printed out 0 prefix out' place → Printed out' place slice out'' size
      → Arrives (at_phase 8 size) input out'' (Failing (file_text (stage_of m input) word))
  printed_file out out' out'' place size some room p q =
      let both : Printed out 0 (prefix ++ word) out'' size = then p (subst (λ (t : List ℕ). Printed out' place t out'' size) slice_is q) in
      led (ap Failing (file_text_some (stage_of m input) word (λ e. some (sym word_length ∙ e))))
      (printed_failing out (prefix ++ word) out'' size (omega (arith, length-append prefix word, word_length, short, room)) both input)

-- What has said its line stops.
pub rest_stops : (m : Marks) (input out : List ℕ) (a : Answer) → eqb m.phase 1 ≡ false → eqb m.phase 2 ≡ false → eqb m.phase 3 ≡ false → eqb m.phase 4 ≡ false
    → eqb m.phase 5 ≡ false → eqb m.phase 6 ≡ false → stepped merging (state_in m input out) a ≡ Stopped
unfolding state_in stepped next
rest_stops m input out a n1 n2 n3 n4 n5 n6 = rw (n1, n2, n3, n4, n5, n6)
    (by_bool (eqb m.phase 7) (λ p7. rw p7 refl) (λ n7. by_bool (eqb m.phase 8) (λ p8. rw (n7, p8) refl) (λ n8. rw (n7, n8) refl)))
