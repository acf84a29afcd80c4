-- What each reader's outcome is, by the words: refused, and accepted.
-- Assumes nothing.
use Rattle.std.specs.Prelude.{◌≡◌, ◌∷◌, ◌+◌, ◌*◌, ◌≤◌, ◌<◌}
use Rattle.laws.specs.Basics.{refl, sym, ◌∙◌, ap, true, List, [], Option, None, Some, ℕ, zero, suc, arith, length, get_or, sets, lt-ltb, le-ltb, le-leb, lt-leb}
use Rattle.laws.specs.{Lists.table, Rows.by_lt, Select.select_length, Tables.table_same, Tables.length_table, Tables.get_d_table}
use Rattle.model.specs.declared.{Interval.Interval, Checkpoint.Checkpoint, Message.Message, Run.Run, Refusal.Refusal}
use Rattle.model.specs.declared.Refusal.TheVariants.{ListTooShort, NoSuchProcess}
use Rattle.model.specs.{Words.entry, Words.Process, Words.process, Sound.sound, Refusals.Rule}
use Rattle.model.specs.laws.Refusals.{Gives, refusal_in}
use Rattle.whole_runs.specs.Outcomes.{refusing, accepting}
use Rattle.listing.specs.answers.Codes.{coded, value_code_of}
use Rattle.words.specs.Layout.{word, wide2, wide4, count_of, end_of, kept_count_at_of, part_at, pins_at_of, pin_of_def, pins_in, checkpoint_in, message_in, is_message, messages_in, run_of}
use Rattle.words.specs.Parts.{process_in}
use Rattle.words.proofs.{Same.vector_word, View.count_is_lem, View.underway_is, View.last_is_lem, View.written_is, View.deleted_is}
use Rattle.words.proofs.ViewSound.{SoundWords, sound_words, sound_process_is, sound_kept_is}
use Rattle.library_readers.specs.Readings.{Reading, reading, numbers_reading, of_process, vector_reading, pin_number, pins_reading, stored_numbers, kept_reading, sent_numbers, messages_reading}
use Rattle.library_readers.specs.Written.{words_from, row_reading, messages_below}

abbrev pub refused_by : Refusal → List ℕ → Reading
refused_by r lent = record { report = refusing r; list = lent }

abbrev pub read : Option ℕ → List ℕ → List ℕ → Reading
read value numbers lent = record { report = accepting value 0; list = sets lent 0 numbers }

-- A reader's outcome, by what its rules give.
module _ (rules : List Rule) (value : Option ℕ) (numbers lent : List ℕ) where
  pub refused_by_lem : (r : Refusal) → Gives rules (Some r) → reading rules value numbers lent ≡ refused_by r lent
  unfolding reading
  refused_by_lem r h = rw (refusal_in rules (Some r) h)

  pub read_by : Gives rules None → reading rules value numbers lent ≡ read value numbers lent
  unfolding reading
  read_by h = rw (refusal_in rules None h)

-- The answer and the list of an outcome.
pub answer_is : {r : Reading} {code : ℕ} {list : List ℕ} {q : Reading} → r ≡ q → code ≡ coded q.report 0 → list ≡ q.list → (code ≡ coded r.report 0) × (list ≡ r.list)
answer_is e a b = rw e (a, b)

-- Accepted with no value, the number of the answer is 0.
pub nothing_reported : 0 ≡ coded (accepting None 0) 0
unfolding coded value_code_of
nothing_reported = refl

pin_word : (x : ℕ) → pin_number (pin_of_def x) ≡ x
unfolding pin_number pin_of_def
pin_word zero = refl
pin_word (suc x) = let e : x + 1 ≡ suc x = omega arith in e

module _ (w : List ℕ) (h : sound (run_of w) ≡ true) where
  abbrev s : Run
  s = run_of w

  known : SoundWords w
  known = sound_words w h

  n_is : s.count ≡ count_of w
  n_is = count_is_lem w known.fit

  -- The numbers of the run.
  pub numbers_short : (lent : List ℕ) → length lent < 5 → numbers_reading s lent ≡ refused_by ListTooShort lent
  unfolding numbers_reading
  numbers_short lent lt = refused_by_lem _ _ _ lent ListTooShort (1, (rw h, tt), lt-ltb (length lent) 5 lt, refl)

  pub numbers_read : (lent : List ℕ) → 5 ≤ length lent
      → numbers_reading s lent ≡ read None (count_of w ∷ wide2 w 2 ∷ word w 1 ∷ wide4 w 4 ∷ wide4 w 8 ∷ []) lent
  unfolding numbers_reading
  numbers_read lent le = read_by _ _ _ lent (rw h, (le-ltb (length lent) 5 le, tt))
      ∙ rw (n_is, last_is_lem w known.fit, underway_is w known.fit, written_is w known.fit, deleted_is w known.fit)

  -- What is read of a process.
  module _ (p room : ℕ) (value : Option ℕ) (numbers lent : List ℕ) where
    pub process_short : length lent < room → reading (of_process s p room lent) value numbers lent ≡ refused_by ListTooShort lent
    process_short lt = refused_by_lem _ value numbers lent ListTooShort (1, (rw h, tt), lt-ltb (length lent) room lt, refl)

    pub process_absent : room ≤ length lent → count_of w ≤ p → reading (of_process s p room lent) value numbers lent ≡ refused_by NoSuchProcess lent
    process_absent le past =
        refused_by_lem _ value numbers lent NoSuchProcess (2, (rw h, (le-ltb (length lent) room le, tt)), le-leb s.count p (omega (arith, n_is)), refl)

    pub process_read : room ≤ length lent → p < count_of w → reading (of_process s p room lent) value numbers lent ≡ read value numbers lent
    process_read le lt = read_by _ value numbers lent (rw h, (le-ltb (length lent) room le, (lt-leb s.count p (omega (arith, n_is)), tt)))

  module _ (p : ℕ) (lt : p < count_of w) where
    pub vector_numbers : table s.count (λ f. (entry (process s p).vector f).0) ≡ words_from w (part_at p) (count_of w)
    unfolding process_in
    vector_numbers = ap (λ (m : ℕ). table m (λ f. (entry (process s p).vector f).0)) n_is
        ∙ table_same (count_of w) _ _ (λ f less. ap (λ (P : Process). (entry P.vector f).0) (sound_process_is w h p lt) ∙ ap (λ (x : Interval). x.0) (vector_word w (part_at p) f (omega (arith, known.few))))

    pub pin_numbers : table s.count (λ f. pin_number (get_or (process s p).pins f None)) ≡ words_from w (pins_at_of p) (count_of w)
    unfolding process_in pins_in
    pin_numbers = ap (λ (m : ℕ). table m (λ f. pin_number (get_or (process s p).pins f None))) n_is
        ∙ table_same (count_of w) _ _ (λ f less. ap (λ (P : Process). pin_number (get_or P.pins f None)) (sound_process_is w h p lt)
        ∙ ap pin_number (get_d_table 16 (λ q. pin_of_def (word w (pins_at_of p + q))) f None (omega (arith, known.few))) ∙ pin_word (word w (pins_at_of p + f)))

  -- The n words from a place of its part on: the three kinds of outcome, and what they are the reading of.
  module _ (p from : ℕ) (lent : List ℕ) where
    pub row_short : length lent < count_of w → row_reading w p from lent ≡ refused_by ListTooShort lent
    unfolding row_reading
    row_short lt = process_short p s.count None _ lent (omega (arith, n_is))

    pub row_absent : count_of w ≤ length lent → count_of w ≤ p → row_reading w p from lent ≡ refused_by NoSuchProcess lent
    unfolding row_reading
    row_absent le past = process_absent p s.count None _ lent (omega (arith, n_is)) past

    pub row_read : count_of w ≤ length lent → p < count_of w → row_reading w p from lent ≡ read None (words_from w (part_at p + from) (count_of w)) lent
    unfolding row_reading
    row_read le lt = process_read p s.count None _ lent (omega (arith, n_is)) lt

    row_is : (numbers : List ℕ) → (p < count_of w → numbers ≡ words_from w (part_at p + from) (count_of w))
        → reading (of_process s p s.count lent) None numbers lent ≡ row_reading w p from lent
    unfolding row_reading
    row_is numbers same = by_lt p (count_of w)
        (λ lt. ap (λ (l : List ℕ). reading (of_process s p s.count lent) None l lent) (same lt))
        (λ past. by_lt (length lent) (count_of w)
        (λ few. process_short p s.count None numbers lent (omega (arith, n_is)) ∙ sym (process_short p s.count None _ lent (omega (arith, n_is))))
        (λ room. process_absent p s.count None numbers lent (omega (arith, n_is)) past ∙ sym (process_absent p s.count None _ lent (omega (arith, n_is)) past)))

  module _ (p : ℕ) (lent : List ℕ) where
    pub vector_row : vector_reading s p lent ≡ row_reading w p 0 lent
    unfolding vector_reading
    vector_row = let e : part_at p + 0 ≡ part_at p = omega arith in row_is p 0 lent _ (λ lt. rw e (vector_numbers p lt))

    pub pins_row : pins_reading s p lent ≡ row_reading w p 16 lent
    unfolding pins_reading
    pins_row = let e : part_at p + 16 ≡ pins_at_of p = omega arith in row_is p 16 lent _ (λ lt. rw e (pin_numbers p lt))

  -- The three kinds of outcome, of each other reader.
  module _ (p : ℕ) (lent : List ℕ) where
    pub kept_short : length lent < 3 * count_of w → kept_reading s p lent ≡ refused_by ListTooShort lent
    unfolding kept_reading
    kept_short lt = process_short p (3 * s.count) _ _ lent (omega (arith, n_is))

    pub kept_absent : 3 * count_of w ≤ length lent → count_of w ≤ p → kept_reading s p lent ≡ refused_by NoSuchProcess lent
    unfolding kept_reading
    kept_absent le past = process_absent p (3 * s.count) _ _ lent (omega (arith, n_is)) past

    pub kept_read : 3 * count_of w ≤ length lent → p < count_of w
        → kept_reading s p lent ≡ read (Some (word w (kept_count_at_of p))) (stored_numbers (table (word w (kept_count_at_of p)) (checkpoint_in w p))) lent
    unfolding kept_reading
    kept_read le lt = process_read p (3 * s.count) _ _ lent (omega (arith, n_is)) lt
        ∙ ap (λ (l : List Checkpoint). read (Some (length l)) (stored_numbers l) lent) (sound_kept_is w h p lt)
        ∙ ap (λ (k : ℕ). read (Some k) (stored_numbers (table (word w (kept_count_at_of p)) (checkpoint_in w p))) lent) (length_table (word w (kept_count_at_of p)) (checkpoint_in w p))

  pub messages_short : (lent : List ℕ) → length lent < 192 → messages_reading s lent ≡ refused_by ListTooShort lent
  unfolding messages_reading
  messages_short lent lt = refused_by_lem _ _ _ lent ListTooShort (1, (rw h, tt), lt-ltb (length lent) 192 lt, refl)

  pub messages_read : (lent : List ℕ) → 192 ≤ length lent → messages_reading s lent ≡ read (Some (length (messages_below w (end_of w)))) (sent_numbers (messages_below w (end_of w))) lent
  unfolding messages_reading messages_in
  messages_read lent le = read_by _ _ _ lent (rw h, (le-ltb (length lent) 192 le, tt))
      ∙ ap (λ (l : List Message). read (Some (length l)) (sent_numbers l) lent) known.under_way_lem

  pub messages_few : length (messages_below w (end_of w)) ≤ 64
  messages_few = omega (arith, select_length is_message (table (end_of w) (message_in w)), length_table (end_of w) (message_in w), known.end)
