-- Which state an answer leads to, by what the code was handed of it.
-- Assumes nothing.
use Rattle.std.specs.Prelude.{◌≡◌, ◌∷◌, ◌++◌, ◌+◌, ◌-◌, ◌≤◌, ◌<◌}
use Rattle.laws.specs.Basics.{refl, sym, ◌∙◌, ap, Bool, true, false, List, [], ℕ, arith, ltb, length, take, drop, length-drop, length-take-le, eq-eqb, ne_eqb, lt-ltb, le-ltb, ltb-false, pick, by_bool}
use Rattle.model.specs.declared.Refusal.{Refusal}
use Rattle.machines.specs.{programs.Numbers.number_in, programs.Numbers.no_number, programs.Numbers.at_most, programs.Texts.figure_text, programs.Texts.refused_text}
use Rattle.machines.specs.Machines.{Answer, Bytes, Done, Failed, heard, heard_count, heard_word, heard_read, heard_done, is_number, stepped}
use Rattle.machines.specs.Forms.{answer_of, taken_of}
use Rattle.machine_merge.specs.declared.marks.Marks.{Marks}
use Rattle.machine_merge.specs.{Buffered.most_counted, Buffered.buffered_size, Buffered.wanted, Printed.Printed, Printed.refusing, Printed.printed}
use Rattle.machine_merge.specs.Merging.{longest_word, longest_name, usage, prefix, first_name, second_name, output_name, Stage, FirstHalf, SecondHalf, State, Counting, Setting, Naming, Opening, Reading, Writing, Reporting, Failing, Stopped, ask, no_name_text, file_text, shown, showing, half_read, onward, after_count, after_set, after_name, after_open_of, after_read_of, after_write_of, next, merging}
use Rattle.machine_merge.specs.Words.{half_at_of, name_at, read_to_of, stage_of, name_of, kept_of}
use Rattle.machine_merge.proofs.Parts.{read_most, wanted_most, keeping_is, buffered_part}
use Rattle.machines.specs.declared.Answer as answers
use Rattle.machines.specs.declared.heard.Taken as takens
use Rattle.machines.specs.declared.heard.Taken.TheVariants as taken

-- How many words there are.
module _ (x : Answer) (b : Bool) (h : b ≡ is_number (heard_count x) 4) where
  pub counted_four : b ≡ true → stepped merging Counting x ≡ Setting
  unfolding stepped ask heard next after_count
  counted_four e = rw (sym h ∙ e) refl

  pub counted_other : b ≡ false → stepped merging Counting x ≡ Reporting usage
  unfolding stepped ask heard next after_count
  counted_other e = rw (sym h ∙ e) refl

-- The set that a word names.
pub set_none : (word : List ℕ) → number_in word ≡ no_number → after_set (Bytes word) ≡ Reporting usage
unfolding after_set
set_none word e = rw (eq-eqb (number_in word) no_number e) refl

pub set_some : (word : List ℕ) → (number_in word ≡ no_number → ⊥) → after_set (Bytes word) ≡ Naming (FirstHalf (at_most (number_in word)))
unfolding after_set
set_some word e = rw (ne_eqb (number_in word) no_number e) refl

pub at_most_lem : (x : ℕ) → at_most x ≤ 4294967295
unfolding at_most
at_most_lem x = by_bool (ltb 4294967295 x) (λ e. rw e (omega arith)) (λ e. rw e (ltb-false 4294967295 x e))

module _ (x : Answer) (at : ℕ) (input : List ℕ) (t : takens.Taken) where
  module _ (h : heard_word longest_word x ≡ taken_of t at input) where
    heard_set : (y : takens.Taken) → t ≡ y → stepped merging Setting x ≡ after_set (taken_of y at input)
    unfolding stepped ask heard next
    heard_set y e = ap after_set (h ∙ ap (λ (z : takens.Taken). taken_of z at input) e)

    pub set_word : (size : ℕ) → t ≡ taken.Brought size → stepped merging Setting x ≡ after_set (Bytes (take size (drop at input)))
    unfolding taken_of
    set_word size e = heard_set (taken.Brought size) e

    pub set_end : t ≡ taken.Ended → stepped merging Setting x ≡ Reporting usage
    unfolding taken_of after_set
    set_end e = heard_set taken.Ended e

    pub set_failed : t ≡ taken.Failed → stepped merging Setting x ≡ Reporting usage
    unfolding taken_of after_set
    set_failed e = heard_set taken.Failed e

  -- The name of a file.
  module _ (stage : Stage) (h : heard_word longest_name x ≡ taken_of t at input) where
    heard_name : (y : takens.Taken) → t ≡ y → stepped merging (Naming stage) x ≡ after_name stage (taken_of y at input)
    unfolding stepped ask heard next
    heard_name y e = ap (after_name stage) (h ∙ ap (λ (z : takens.Taken). taken_of z at input) e)

    pub name_word : (size : ℕ) → t ≡ taken.Brought size → stepped merging (Naming stage) x ≡ Opening stage (take size (drop at input))
    unfolding taken_of after_name
    name_word size e = heard_name (taken.Brought size) e

    pub name_end : t ≡ taken.Ended → stepped merging (Naming stage) x ≡ Failing (no_name_text stage)
    unfolding taken_of after_name
    name_end e = heard_name taken.Ended e

    pub name_failed : t ≡ taken.Failed → stepped merging (Naming stage) x ≡ Failing (no_name_text stage)
    unfolding taken_of after_name
    name_failed e = heard_name taken.Failed e

-- Whether a file is opened, and the trace written.
module _ (x : Answer) (b : Bool) (h : heard_done x ≡ pick b Done Failed) where
  pub open_done : (stage : Stage) (name : List ℕ) → b ≡ true → stepped merging (Opening stage name) x ≡ Reading stage name [] 0
  unfolding stepped ask heard next after_open_of
  open_done stage name e = ap (after_open_of stage name) (h ∙ ap (λ (y : Bool). pick y Done Failed) e)

  pub open_failed : (stage : Stage) (name : List ℕ) → b ≡ false → stepped merging (Opening stage name) x ≡ Failing (file_text stage name)
  unfolding stepped ask heard next after_open_of
  open_failed stage name e = ap (after_open_of stage name) (h ∙ ap (λ (y : Bool). pick y Done Failed) e)

  pub write_done : (trace : List ℕ) → b ≡ true → stepped merging (Writing trace) x ≡ Stopped
  unfolding stepped ask heard next after_write_of
  write_done trace e = ap after_write_of (h ∙ ap (λ (y : Bool). pick y Done Failed) e)

  pub write_failed : (trace : List ℕ) → b ≡ false → stepped merging (Writing trace) x ≡ Failing output_name
  unfolding stepped ask heard next after_write_of
  write_failed trace e = ap after_write_of (h ∙ ap (λ (y : Bool). pick y Done Failed) e)

-- The bytes of a file.
pub none_kept : (half : ℕ) (input : List ℕ) → kept_of half 0 input ≡ []
unfolding kept_of
none_kept half input = refl

module _ (half count : ℕ) (input : List ℕ) (long : longest_word ≤ length input) (stage : Stage) (name : List ℕ) (a : answers.Answer) (t : takens.Taken) (most : ℕ) (is : most ≡ wanted count)
    (h : heard_read most (answer_of a (read_to_of half count) input) ≡ taken_of t (read_to_of half count) input) where
  abbrev place : ℕ
  place = read_to_of half count

  abbrev kept : List ℕ
  kept = kept_of half count input

  abbrev after_reading : State
  after_reading = stepped merging (Reading stage name kept count) (answer_of a place input)

  heard_read_lem : (y : takens.Taken) → t ≡ y → after_reading ≡ after_read_of stage name kept count (taken_of y place input)
  unfolding stepped ask heard next
  heard_read_lem y e =
      ap (λ (k : ℕ). after_read_of stage name kept count (heard_read k (answer_of a place input))) (sym is)
      ∙ ap (after_read_of stage name kept count) (h ∙ ap (λ (z : takens.Taken). taken_of z place input) e)

  pub read_bytes : (size : ℕ) → t ≡ taken.Brought size → size ≤ most → after_reading ≡ onward stage name (kept_of half (count + size) input) (count + size)
  unfolding taken_of after_read_of
  read_bytes size e short =
      let many : length (take size (drop place input)) ≡ size = length-take-le size (drop place input) (omega (arith, short, is, wanted_most count, read_most half count, length-drop place input, long)) in
      heard_read_lem (taken.Brought size) e
      ∙ ap (λ (l : List ℕ). onward stage name l (count + length (take size (drop place input)))) (keeping_is half count size input)
      ∙ ap (λ (k : ℕ). onward stage name (kept_of half (count + size) input) (count + k)) many

  pub read_end : t ≡ taken.Ended → after_reading ≡ half_read stage (take (buffered_size count) (drop (half_at_of half) input))
  unfolding taken_of after_read_of
  read_end e = heard_read_lem taken.Ended e ∙ ap (half_read stage) (buffered_part half count input)

  pub read_failed : t ≡ taken.Failed → after_reading ≡ Failing (file_text stage name)
  unfolding taken_of after_read_of
  read_failed e = heard_read_lem taken.Failed e

module _ (half count : ℕ) (input : List ℕ) (stage : Stage) (name : List ℕ) where
  pub onward_read : count < most_counted → onward stage name (kept_of half count input) count ≡ Reading stage name (kept_of half count input) count
  unfolding onward
  onward_read h = rw (lt-ltb count most_counted h) refl

  pub onward_end : most_counted ≤ count → onward stage name (kept_of half count input) count ≡ half_read stage (take (buffered_size count) (drop (half_at_of half) input))
  unfolding onward
  onward_end h = rw (le-ltb count most_counted h) (ap (half_read stage) (buffered_part half count input))

-- What is reported of a file, by which half it is.
module _ (m : Marks) (input : List ℕ) where
  pub no_name_first : m.half ≡ 0 → no_name_text (stage_of m input) ≡ first_name
  unfolding stage_of no_name_text
  no_name_first e = rw (eq-eqb m.half 0 e) refl

  pub no_name_second : (m.half ≡ 0 → ⊥) → no_name_text (stage_of m input) ≡ second_name
  unfolding stage_of no_name_text
  no_name_second e = rw (ne_eqb m.half 0 e) refl

  pub file_text_none : m.name ≡ 0 → file_text (stage_of m input) (name_of m input) ≡ no_name_text (stage_of m input)
  unfolding name_of file_text
  file_text_none e = rw e refl

  -- A half has ended.
  pub first_ended : (half : List ℕ) → m.half ≡ 0 → half_read (stage_of m input) half ≡ Naming (SecondHalf m.set half)
  unfolding stage_of half_read
  first_ended half e = rw (eq-eqb m.half 0 e) refl

  pub second_ended : (half : List ℕ) → (m.half ≡ 0 → ⊥) → half_read (stage_of m input) half ≡ showing (printed (take m.first (drop longest_name input)) half m.set)
  unfolding stage_of half_read
  second_ended half e = rw (ne_eqb m.half 0 e) refl

pub file_text_some : (stage : Stage) (name : List ℕ) → (length name ≡ 0 → ⊥) → file_text stage name ≡ prefix ++ name
unfolding file_text
file_text_some stage [] h = absurd (h refl)
file_text_some stage (x ∷ name) h = refl

pub first_place : (half : ℕ) → half ≡ 0 → half_at_of half ≡ 4096
unfolding half_at_of name_at
first_place half e = rw (eq-eqb half 0 e) refl

pub second_place : (half : ℕ) → (half ≡ 0 → ⊥) → half_at_of half ≡ 24584
unfolding half_at_of name_at
second_place half e = rw (ne_eqb half 0 e) refl

pub first_buffered : (m : Marks) (input : List ℕ) (count buffered : ℕ) → buffered ≡ buffered_size count → m.half ≡ 0
    → half_read (stage_of m input) (take (buffered_size count) (drop (half_at_of m.half) input)) ≡ Naming (SecondHalf m.set (take buffered (drop longest_name input)))
first_buffered m input count buffered h e =
    let place = first_place m.half e in
    first_ended m input (take (buffered_size count) (drop (half_at_of m.half) input)) e ∙ (λ j. Naming (SecondHalf m.set (take (sym h j) (drop (place j) input))))

pub second_buffered : (m : Marks) (input : List ℕ) (count buffered : ℕ) → buffered ≡ buffered_size count → (m.half ≡ 0 → ⊥)
    → half_read (stage_of m input) (take (buffered_size count) (drop (half_at_of m.half) input))
    ≡ showing (printed (take ((4096 + m.first) - 4096) (drop 4096 input)) (take ((24584 + buffered) - 24584) (drop 24584 input)) m.set)
second_buffered m input count buffered h e =
    let place = second_place m.half e in
    let one : m.first ≡ (4096 + m.first) - 4096 = omega arith in
    let other : buffered_size count ≡ (24584 + buffered) - 24584 = omega (arith, h) in
    second_ended m input (take (buffered_size count) (drop (half_at_of m.half) input)) e
    ∙ (λ j. showing (printed (take (one j) (drop longest_name input)) (take (other j) (drop (place j) input)) m.set))

-- The merged trace, or why there is none.
pub shown_refusal : (p : Printed) (why : Refusal) → p ≡ refusing why → showing p ≡ Reporting (refused_text why)
unfolding showing shown refused_text figure_text
shown_refusal p why e = rw e refl

pub shown_trace : (p : Printed) (trace : List ℕ) → p.trace ≡ trace → p.refusal ≡ [] → showing p ≡ Writing trace
unfolding showing shown
shown_trace p trace e f = rw (e, f) refl
