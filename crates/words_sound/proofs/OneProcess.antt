-- All that document 01 asks of one process is what is tested of its words.
-- Assumes nothing.
use Rattle.std.specs.Prelude.{◌≡◌, ◌&&◌, ◌∷◌, ◌+◌, ◌-◌, ◌≤◌, ◌<◌, None}
use Rattle.laws.specs.Basics.{refl, sym, ◌∙◌, ap, Bool, true, false, not, List, [], map, ℕ, arith, eqb, ltb, leb, get_or, drop, eqb-true, eqb-false, le-ltb, leb-true, not-true, not-false, pick, by_bool}
use Rattle.laws.specs.Conjunctions.{Conjunction, none, test, ◌and◌, each, holds, asks, same_tests, part_fails}
use Rattle.laws.specs.{Lists.or_else, Lists.last_of, Lists.table, Ranges.all_same, Rows.every_both, Rows.all_both, Rows.all_stop, Rows.and_true}
use Rattle.laws.specs.{Search.all_below, Search.any_below, Search.all_out, Search.all_fails, Tables.get_d_table, Tests.every, Tests.all_of}
use Rattle.laws.specs.Truth.{and_left, and_right, and_no_right}
use Rattle.model.specs.Shapes.{Pin}
use Rattle.model.specs.declared.{Interval.Interval, Checkpoint.Checkpoint, Run.Run}
use Rattle.model.specs.Words.{Process, most_processes, entry, last_stored_of, names, is_pinned, no_checkpoint, block_count, process, own}
use Rattle.model.specs.Sound.{within, ascending, kept_sound, pin_sound, pins_sound, zero_from, nothing_from, unused_checkpoint, row_unused, cause_sound, is_block_count_of, record_sound}
use Rattle.words.specs.Layout.{word, count_of, kept_count_at_of, blocks_at_of, part_at, pins_at_of, cause_at_of, stored_at, pin_of_def, vector_in, pins_in, checkpoint_in, is_kept_in, decoded}
use Rattle.words.proofs.Reading.{names_word}
use Rattle.words_sound.specs.Test.{own_in, row_within_of, pin_in, unused_pins, index_in_of, index_before, kept_tests, kept_fits, pin_fits, counts_fit, part_tests, part_fits}
use Rattle.words_sound.proofs.Laws.{cons_same, both_false, every_table_is}
use Rattle.words_sound.proofs.Parts as parts
use Rattle.words_sound.proofs.Clauses as clauses

-- A place that is not in use has no block count.
none_recorded : (P : Process) → record_sound P no_checkpoint ≡ false
unfolding record_sound is_block_count_of cause_sound
none_recorded P = refl

module _ (w : List ℕ) (high : count_of w ≤ 16) (p : ℕ) (lt : p < count_of w) (small : word w (blocks_at_of p) ≤ 65535) (owned : (f : ℕ) → f < count_of w → 1 ≤ own_in w f) where
  abbrev s : Run
  s = decoded w

  abbrev kept_count_of_def : ℕ
  kept_count_of_def = word w (kept_count_at_of p)

  abbrev P : Process
  P = process (decoded w) p

  -- All that is asked of process p, as document 01 groups it.
  abbrev pub asked : Bool
  asked = leb 1 (own s p).0 && (within s P.vector && every (λ c. within s c.vector) P.kept) && (kept_sound s p && pins_sound s p) && row_unused s p && every (record_sound P) P.kept

  -- The same as a list of tests.
  abbrev asked_tests : List Bool
  asked_tests =
      leb 1 (own s p).0
      ∷ (within s P.vector && zero_from s.count P.vector)
      ∷ (every (λ c. within s c.vector) P.kept && every (λ c. zero_from s.count c.vector) P.kept)
      ∷ leb 1 (get_or s.kept_count p 0)
      ∷ leb (get_or s.kept_count p 0) s.count
      ∷ ascending 0 (map (λ c. c.index.0) P.kept)
      ∷ every (λ c. eqb (entry c.vector p).0 c.index.0) P.kept
      ∷ eqb (or_else (last_of P.kept) no_checkpoint).index.0 (last_stored_of (own s p)).0
      ∷ names (get_or P.pins p None) (last_stored_of (own s p))
      ∷ every (pin_sound P.kept) P.pins
      ∷ every (is_pinned P.pins) P.kept
      ∷ nothing_from s.count P.pins
      ∷ every unused_checkpoint (drop (get_or s.kept_count p 0) (get_or s.kept.0 p []))
      ∷ every (record_sound P) P.kept
      ∷ []

  asked_all : asked ≡ all_of asked_tests
  unfolding kept_sound pins_sound row_unused every holds each asks all_below
  asked_all = same_tests
      (leb 1 (own s p).0
      ∷ within s P.vector
      ∷ zero_from s.count P.vector
      ∷ every (λ c. within s c.vector) P.kept
      ∷ every (λ c. zero_from s.count c.vector) P.kept
      ∷ leb 1 (get_or s.kept_count p 0)
      ∷ leb (get_or s.kept_count p 0) s.count
      ∷ ascending 0 (map (λ c. c.index.0) P.kept)
      ∷ every (λ c. eqb (entry c.vector p).0 c.index.0) P.kept
      ∷ eqb (or_else (last_of P.kept) no_checkpoint).index.0 (last_stored_of (own s p)).0
      ∷ names (get_or P.pins p None) (last_stored_of (own s p))
      ∷ every (pin_sound P.kept) P.pins
      ∷ every (is_pinned P.pins) P.kept
      ∷ nothing_from s.count P.pins
      ∷ every unused_checkpoint (drop (get_or s.kept_count p 0) (get_or s.kept.0 p []))
      ∷ every (record_sound P) P.kept
      ∷ [])
      (test 0
      and (test 1 and test 3)
      and (test 5 and test 6 and test 7 and test 8 and test 9 and test 10 and (test 11 and test 12))
      and (test 2 and test 13 and test 4 and test 14)
      and test 15)
      (each (test 0 ∷ (test 1 and test 2) ∷ (test 3 and test 4) ∷ test 5 ∷ test 6 ∷ test 7 ∷ test 8 ∷ test 9 ∷ test 10 ∷ test 11 ∷ test 12 ∷ test 13 ∷ test 14 ∷ test 15 ∷ []))
      refl
      refl

  -- What is tested of the words, with the tests of the kept checkpoints apart.
  abbrev word_tests : List Bool
  word_tests =
      leb 1 (own_in w p)
      ∷ row_within_of w (part_at p)
      ∷ all_below kept_count_of_def (λ k. row_within_of w (stored_at p k))
      ∷ leb 1 kept_count_of_def
      ∷ leb kept_count_of_def (count_of w)
      ∷ all_below kept_count_of_def (λ k. ltb (index_before w p k) (index_in_of w p k))
      ∷ all_below kept_count_of_def (λ k. eqb (word w (stored_at p k + p)) (index_in_of w p k - 1))
      ∷ eqb (index_before w p kept_count_of_def) (own_in w p)
      ∷ eqb (pin_in w p p) (own_in w p)
      ∷ all_below most_processes (pin_fits w p kept_count_of_def)
      ∷ all_below kept_count_of_def (λ k. any_below most_processes (λ f. eqb (pin_in w p f) (index_in_of w p k)))
      ∷ unused_pins w p
      ∷ true
      ∷ (all_below kept_count_of_def (λ k. cause_sound (index_in_of w p k - 1) (word w (cause_at_of p k))) && leb 1 (word w (blocks_at_of p)))
      ∷ []

  kept_apart : all_below kept_count_of_def (kept_fits w p)
      ≡ (all_below kept_count_of_def (λ k. ltb (index_before w p k) (index_in_of w p k))
      && (all_below kept_count_of_def (λ k. eqb (word w (stored_at p k + p)) (index_in_of w p k - 1))
      && (all_below kept_count_of_def (λ k. cause_sound (index_in_of w p k - 1) (word w (cause_at_of p k)))
      && all_below kept_count_of_def (λ k. any_below most_processes (λ f. eqb (pin_in w p f) (index_in_of w p k)) && true))))
  unfolding kept_fits kept_tests every
  kept_apart =
      let a : ℕ → Bool = λ k. ltb (index_before w p k) (index_in_of w p k) in
      let b : ℕ → Bool = λ k. eqb (word w (stored_at p k + p)) (index_in_of w p k - 1) in
      let c : ℕ → Bool = λ k. cause_sound (index_in_of w p k - 1) (word w (cause_at_of p k)) in
      let d : ℕ → Bool = λ k. any_below most_processes (λ f. eqb (pin_in w p f) (index_in_of w p k)) && true in
      all_both kept_count_of_def a (λ k. b k && (c k && d k))
      ∙ rw (all_both kept_count_of_def b (λ k. c k && d k), all_both kept_count_of_def c d)

  pinned_apart : all_below kept_count_of_def (λ k. any_below most_processes (λ f. eqb (pin_in w p f) (index_in_of w p k)) && true) ≡ all_below kept_count_of_def (λ k. any_below most_processes (λ f. eqb (pin_in w p f) (index_in_of w p k)))
  pinned_apart =
      let is_pinned : ℕ → Bool = λ k. any_below most_processes (λ f. eqb (pin_in w p f) (index_in_of w p k)) in
      all_same kept_count_of_def (λ k. is_pinned k && true) is_pinned (λ k less. and_true (is_pinned k))

  words_all : all_of word_tests ≡ (counts_fit w p && part_fits w p)
  unfolding counts_fit part_fits part_tests every holds each asks all_below
  words_all = rw (kept_apart, pinned_apart) (same_tests
      (leb 1 (own_in w p)
      ∷ row_within_of w (part_at p)
      ∷ all_below kept_count_of_def (λ k. row_within_of w (stored_at p k))
      ∷ leb 1 kept_count_of_def
      ∷ leb kept_count_of_def (count_of w)
      ∷ all_below kept_count_of_def (λ k. ltb (index_before w p k) (index_in_of w p k))
      ∷ all_below kept_count_of_def (λ k. eqb (word w (stored_at p k + p)) (index_in_of w p k - 1))
      ∷ eqb (index_before w p kept_count_of_def) (own_in w p)
      ∷ eqb (pin_in w p p) (own_in w p)
      ∷ all_below most_processes (pin_fits w p kept_count_of_def)
      ∷ all_below kept_count_of_def (λ k. any_below most_processes (λ f. eqb (pin_in w p f) (index_in_of w p k)))
      ∷ unused_pins w p
      ∷ all_below kept_count_of_def (λ k. cause_sound (index_in_of w p k - 1) (word w (cause_at_of p k)))
      ∷ leb 1 (word w (blocks_at_of p))
      ∷ [])
      (each (test 0 ∷ test 1 ∷ test 2 ∷ test 3 ∷ test 4 ∷ test 5 ∷ test 6 ∷ test 7 ∷ test 8 ∷ test 9 ∷ test 10 ∷ test 11 ∷ none ∷ (test 12 and test 13) ∷ []))
      ((test 3 and test 4 and test 13)
      and each (test 0 ∷ test 8 ∷ test 1 ∷ test 11 ∷ (test 5 and (test 6 and (test 12 and test 10))) ∷ test 2 ∷ test 7 ∷ test 9 ∷ []))
      refl
      refl)

  part_off : (f : Conjunction) → holds (part_tests w p) f ≡ false → part_fits w p ≡ false
  unfolding part_fits
  part_off f e = sym (part_fails (part_tests w p) f e)

  kept_off : (k : ℕ) → ltb (index_before w p k) (index_in_of w p k) ≡ false → kept_fits w p k ≡ false
  unfolding kept_fits kept_tests holds
  kept_off k e = sym (part_fails (kept_tests w p k) (test 0) e)

  place_off : (k : ℕ) → not (eqb (index_in_of w p k) 0) ≡ false → is_kept_in w p k ≡ false
  unfolding is_kept_in
  place_off k e = and_no_right (ltb k kept_count_of_def) (not (eqb (index_in_of w p k) 0)) e

  unrecorded : kept_count_of_def ≤ 16 → (k : ℕ) → k < kept_count_of_def → not (eqb (index_in_of w p k) 0) ≡ false → every (record_sound P) P.kept ≡ false
  unrecorded few k less e =
      let place : ℕ → Checkpoint = λ k. pick (is_kept_in w p k) (checkpoint_in w p k) no_checkpoint in
      ap (λ (l : List Checkpoint). every (record_sound P) l) (parts.kept_table w high p lt few)
      ∙ every_table_is (record_sound P) kept_count_of_def place
      ∙ sym (all_stop kept_count_of_def (λ k. record_sound P (place k)) k less (rw (place_off k e) (none_recorded P)))

  -- Where the process keeps 1 to n, none of their indexes is 0 and its own entry is at least 1, the tests are the same one by one.
  module _ (kept : 1 ≤ kept_count_of_def) (few : kept_count_of_def ≤ count_of w) (some_own : 1 ≤ own_in w p) (filled : all_below kept_count_of_def (λ k. not (eqb (index_in_of w p k) 0)) ≡ true) where
    some : (k : ℕ) → k < kept_count_of_def → 1 ≤ index_in_of w p k
    some k less = let ne = eqb-false (index_in_of w p k) 0 (not-true _ (all_out kept_count_of_def (λ k. not (eqb (index_in_of w p k) 0)) filled k less)) in omega arith

    vector_is : P.vector ≡ vector_in w (part_at p)
    vector_is = parts.vector_at w high p lt

    pins_are : P.pins ≡ pins_in w (pins_at_of p)
    pins_are = parts.pins_at_lem w high p lt

    kept_are : P.kept ≡ table kept_count_of_def (checkpoint_in w p)
    kept_are = parts.kept_at w high p lt (omega arith) filled

    own_is : (own s p).0 ≡ own_in w p
    own_is = parts.own_at w high p lt

    kept_count_is : get_or s.kept_count p 0 ≡ kept_count_of_def
    kept_count_is = parts.kept_count_at_lem w high p lt

    stored_row : (k : ℕ) → (within s (checkpoint_in w p k).vector && zero_from s.count (checkpoint_in w p k).vector) ≡ row_within_of w (stored_at p k)
    unfolding checkpoint_in
    stored_row k = parts.row_within w high (stored_at p k)

    vectors_stored : (every (λ c. within s c.vector) P.kept && every (λ c. zero_from s.count c.vector) P.kept) ≡ all_below kept_count_of_def (λ k. row_within_of w (stored_at p k))
    vectors_stored =
        let both : Checkpoint → Bool = λ c. within s c.vector && zero_from s.count c.vector in
        sym (every_both (λ (c : Checkpoint). within s c.vector) (λ (c : Checkpoint). zero_from s.count c.vector) P.kept)
        ∙ ap (λ (l : List Checkpoint). every both l) kept_are
        ∙ every_table_is both kept_count_of_def (checkpoint_in w p)
        ∙ all_same kept_count_of_def (λ k. both (checkpoint_in w p k)) (λ k. row_within_of w (stored_at p k)) (λ k less. stored_row k)

    last_is_lem : eqb (or_else (last_of P.kept) no_checkpoint).index.0 (last_stored_of (own s p)).0 ≡ eqb (index_before w p kept_count_of_def) (own_in w p)
    last_is_lem =
        ap (λ (l : List Checkpoint). eqb (or_else (last_of l) no_checkpoint).index.0 ((own s p).0 - 1)) kept_are
        ∙ ap (λ (x : ℕ). eqb (or_else (last_of (table kept_count_of_def (checkpoint_in w p))) no_checkpoint).index.0 (x - 1)) own_is
        ∙ clauses.kept_last w p kept_count_of_def (own_in w p) kept some_own some

    pin_at : get_or (pins_in w (pins_at_of p)) p None ≡ pin_of_def (pin_in w p p)
    unfolding pins_in
    pin_at = get_d_table most_processes (λ f. pin_of_def (pin_in w p f)) p None (omega arith)

    own_pinned : names (get_or P.pins p None) (last_stored_of (own s p)) ≡ eqb (pin_in w p p) (own_in w p)
    own_pinned =
        ap (λ (l : List Pin). names (get_or l p None) (last_stored_of (own s p))) pins_are
        ∙ ap (λ (x : Pin). names x (last_stored_of (own s p))) pin_at
        ∙ ap (λ (x : ℕ). names (pin_of_def (pin_in w p p)) (record { 0 = x - 1 })) own_is
        ∙ names_word (pin_in w p p) (own_in w p) some_own

    blocks_at : (k : ℕ) → (checkpoint_in w p k).blocks ≡ word w (blocks_at_of p)
    unfolding checkpoint_in
    blocks_at k = refl

    block_count_lem : block_count P ≡ word w (blocks_at_of p)
    unfolding block_count
    block_count_lem =
        ap (λ (l : List Checkpoint). (get_or l 0 no_checkpoint).blocks) kept_are
        ∙ ap (λ (c : Checkpoint). c.blocks) (get_d_table kept_count_of_def (checkpoint_in w p) 0 no_checkpoint kept)
        ∙ blocks_at 0

    one_record : (k : ℕ) → record_sound P (checkpoint_in w p k)
        ≡ (cause_sound (index_in_of w p k - 1) (word w (cause_at_of p k)) && (leb 1 (word w (blocks_at_of p)) && leb (word w (blocks_at_of p)) 65535) && eqb (word w (blocks_at_of p)) (word w (blocks_at_of p)))
    unfolding record_sound is_block_count_of checkpoint_in
    one_record k = ap (λ (x : ℕ). cause_sound (index_in_of w p k - 1) (word w (cause_at_of p k)) && (leb 1 (word w (blocks_at_of p)) && leb (word w (blocks_at_of p)) 65535) && eqb (word w (blocks_at_of p)) x) block_count_lem

    records_kept : every (record_sound P) P.kept ≡ (all_below kept_count_of_def (λ k. cause_sound (index_in_of w p k - 1) (word w (cause_at_of p k))) && leb 1 (word w (blocks_at_of p)))
    records_kept =
        ap (λ (l : List Checkpoint). every (record_sound P) l) kept_are
        ∙ every_table_is (record_sound P) kept_count_of_def (checkpoint_in w p)
        ∙ all_same kept_count_of_def (λ k. record_sound P (checkpoint_in w p k))
        (λ k. cause_sound (index_in_of w p k - 1) (word w (cause_at_of p k)) && (leb 1 (word w (blocks_at_of p)) && leb (word w (blocks_at_of p)) 65535) && eqb (word w (blocks_at_of p)) (word w (blocks_at_of p)))
        (λ k less. one_record k)
        ∙ clauses.kept_records w p kept_count_of_def some kept small

    same_lists : asked_tests ≡ word_tests
    same_lists =
        cons_same _ _ _ _ (ap (λ (x : ℕ). leb 1 x) own_is)
        (cons_same _ _ _ _ (ap (λ (v : List Interval). within s v && zero_from s.count v) vector_is ∙ parts.row_within w high (part_at p))
        (cons_same _ _ _ _ vectors_stored
        (cons_same _ _ _ _ (ap (λ (x : ℕ). leb 1 x) kept_count_is)
        (cons_same _ _ _ _ (ap (λ (x : ℕ). leb x s.count) kept_count_is ∙ ap (λ (x : ℕ). leb kept_count_of_def x) (parts.count_at w high))
        (cons_same _ _ _ _ (ap (λ (l : List Checkpoint). ascending 0 (map (λ c. c.index.0) l)) kept_are ∙ clauses.kept_ascend w p kept_count_of_def some)
        (cons_same _ _ _ _ (ap (λ (l : List Checkpoint). every (λ c. eqb (entry c.vector p).0 c.index.0) l) kept_are ∙ clauses.kept_own w p kept_count_of_def (omega arith))
        (cons_same _ _ _ _ last_is_lem
        (cons_same _ _ _ _ own_pinned
        (cons_same _ _ _ _ (ap (λ (l : List Checkpoint). every (pin_sound l) P.pins) kept_are ∙ ap (λ (l : List Pin). every (pin_sound (table kept_count_of_def (checkpoint_in w p))) l) pins_are ∙ clauses.pins_fit w p kept_count_of_def some)
        (cons_same _ _ _ _ (ap (λ (l : List Checkpoint). every (is_pinned P.pins) l) kept_are ∙ ap (λ (l : List Pin). every (is_pinned l) (table kept_count_of_def (checkpoint_in w p))) pins_are ∙ clauses.kept_pinned w p kept_count_of_def some)
        (cons_same _ _ _ _ (ap (λ (l : List Pin). nothing_from s.count l) pins_are ∙ ap (λ (x : ℕ). nothing_from x (pins_in w (pins_at_of p))) (parts.count_at w high) ∙ clauses.pins_rest w p owned)
        (cons_same _ _ _ _ (ap (λ (x : ℕ). every unused_checkpoint (drop x (get_or s.kept.0 p []))) kept_count_is ∙ ap (λ (l : List Checkpoint). every unused_checkpoint (drop kept_count_of_def l)) (parts.row_at w high p lt) ∙ parts.rest_unused w high p lt)
        (cons_same _ _ _ _ records_kept refl)))))))))))))

  -- Otherwise both fail.
  counts_off : (leb 1 kept_count_of_def && leb kept_count_of_def (count_of w)) ≡ false → asked ≡ (counts_fit w p && part_fits w p)
  unfolding holds counts_fit
  counts_off e = both_false asked (counts_fit w p && part_fits w p)
      (asked_all ∙ sym (part_fails asked_tests (test 3 and test 4) (ap (λ (x : ℕ). leb 1 x && leb x s.count) (parts.kept_count_at_lem w high p lt) ∙ ap (λ (x : ℕ). leb 1 kept_count_of_def && leb kept_count_of_def x) (parts.count_at w high) ∙ e)))
      (rw e)

  own_off : leb 1 (own_in w p) ≡ false → asked ≡ (counts_fit w p && part_fits w p)
  unfolding holds part_tests
  own_off e = both_false asked (counts_fit w p && part_fits w p)
      (asked_all ∙ sym (part_fails asked_tests (test 0) (ap (λ (x : ℕ). leb 1 x) (parts.own_at w high p lt) ∙ e)))
      (and_no_right (counts_fit w p) (part_fits w p) (part_off (test 0) e))

  index_off : kept_count_of_def ≤ 16 → (k : ℕ) → k < kept_count_of_def → not (eqb (index_in_of w p k) 0) ≡ false → asked ≡ (counts_fit w p && part_fits w p)
  unfolding holds part_tests
  index_off few k less e =
      let none : index_in_of w p k ≡ 0 = eqb-true (index_in_of w p k) 0 (not-false _ e) in
      both_false asked (counts_fit w p && part_fits w p)
      (asked_all ∙ sym (part_fails asked_tests (test 13) (unrecorded few k less e)))
      (and_no_right (counts_fit w p) (part_fits w p) (part_off (test 4) (sym (all_stop kept_count_of_def (kept_fits w p) k less (kept_off k (le-ltb (index_before w p k) (index_in_of w p k) (omega arith)))))))

  pub process_same : asked ≡ (counts_fit w p && part_fits w p)
  process_same = by_bool (leb 1 kept_count_of_def && leb kept_count_of_def (count_of w))
      (λ e. let kept = leb-true 1 kept_count_of_def (and_left (leb 1 kept_count_of_def) (leb kept_count_of_def (count_of w)) e) in
      let few = leb-true kept_count_of_def (count_of w) (and_right (leb 1 kept_count_of_def) (leb kept_count_of_def (count_of w)) e) in
      by_bool (leb 1 (own_in w p))
      (λ o. by_bool (all_below kept_count_of_def (λ k. not (eqb (index_in_of w p k) 0)))
      (λ filled. asked_all ∙ ap (λ (l : List Bool). all_of l) (same_lists kept few (leb-true 1 (own_in w p) o) filled) ∙ words_all)
      (λ no. let at = all_fails kept_count_of_def (λ k. not (eqb (index_in_of w p k) 0)) no in index_off (omega arith) at.0 at.1 at.2))
      own_off)
      counts_off
