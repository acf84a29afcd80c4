-- The theorem: the test of the words is `sound` of the run that they stand for.
-- Assumes nothing.
use Rattle.std.specs.Prelude.{◌≡◌, ◌&&◌, ◌||◌, ◌∷◌, ◌+◌, ◌-◌, ◌*◌, ◌≤◌, ◌<◌}
use Rattle.laws.specs.Basics.{refl, sym, ◌∙◌, ap, Bool, true, false, not, List, [], map, ℕ, arith, eqb, ltb, leb, length, drop, replicate, ne_eqb, ltb-true, le-leb, leb-true, by_bool}
use Rattle.laws.specs.Conjunctions.{none, test, ◌and◌, each, holds, asks, same_tests, part_fails}
use Rattle.laws.specs.{Elements.every_replicate, Ranges.all_same, Rows.all_both, Rows.all_stop, Rows.and_true, Rows.every_at, Sums.sum_same}
use Rattle.laws.specs.{Search.all_below, Search.all_in, Search.all_out, Search.all_fails, Tests.every, Tests.all_of, Tests.count_below}
use Rattle.laws.specs.Truth.{and_left, and_right, and_both, and_no_right}
use Rattle.model.specs.declared.{Checkpoint.Checkpoint, Run.Run}
use Rattle.model.specs.Words.{most_processes, most_under_way, most_messages, most_blocks, blocks_of, zero_vector, no_pins_of, no_checkpoint, blank, process, own, under_way}
use Rattle.model.specs.Sound.{sound, count_sound, own_sound, within, vectors_sound, ascending, kept_sound, pins_sound, message_sound, messages_sound, zero_from, unused_checkpoint, unused_message, nothing_from, is_nothing_of, row_unused, unused_sound, record_sound, kept_blocks, disk_sound}
use Rattle.words.specs.Layout.{state_size, word, wide2, wide4, count_of, end_of, kept_count_at_of, blocks_at_of, part_at, pins_at_of, vector_in, pins_in, kept_in, mark_in, message_in, is_message, decoded, end_fits_of, fits, run_of}
use Rattle.words_sound.specs.Test.{own_in, number_in, number_before, index_in_of, index_before, kept_tests, kept_fits, counts_fit, part_tests, part_fits, blocks_in, disk_fits, message_fits, carried_fits, messages_tests, sound_tests, sound_in}
use Rattle.words_sound.proofs.{Laws.both_false, Laws.cons_same, Messages.under}
use Rattle.words_sound.proofs.Parts as parts
use Rattle.words_sound.proofs.Clauses as clauses
use Rattle.words_sound.proofs.OneProcess as one
use Rattle.words_sound.proofs.Messages as under_way_lem

-- The state of zeros is not sound.
blank_off : sound (blank 0) ≡ false
unfolding sound count_sound blank
blank_off = refl

zeros : zero_from 0 zero_vector ≡ true
unfolding zero_from every
zeros = refl

nothings : nothing_from 0 no_pins_of ≡ true
unfolding nothing_from is_nothing_of every
nothings = refl

-- An index that is above the one before is not 0.
index_some : (w : List ℕ) (p k : ℕ) → kept_fits w p k ≡ true → not (eqb (index_in_of w p k) 0) ≡ true
unfolding kept_fits kept_tests every
index_some w p k e =
    let above = ltb-true (index_before w p k) (index_in_of w p k) (and_left (ltb (index_before w p k) (index_in_of w p k)) _ e) in
    rw (ne_eqb (index_in_of w p k) 0 (omega arith))

module _ (w : List ℕ) (small : (k : ℕ) → word w k ≤ 65535) where
  abbrev s : Run
  s = decoded w

  abbrev n : ℕ
  n = count_of w

  -- A count outside its range.
  count_off : (leb 1 n && leb n most_processes) ≡ false → sound s ≡ false
  unfolding sound count_sound decoded
  count_off e = rw e

  module _ (low : 1 ≤ n) (high : n ≤ 16) where
    abbrev asked : ℕ → Bool
    asked p = leb 1 (own s p).0 && (within s (process s p).vector && every (λ c. within s c.vector) (process s p).kept) && (kept_sound s p && pins_sound s p) && row_unused s p && every (record_sound (process s p)) (process s p).kept

    abbrev owns_asked : ℕ → Bool
    owns_asked p = leb 1 (own s p).0

    abbrev vectors_asked : ℕ → Bool
    vectors_asked p = within s (process s p).vector && every (λ c. within s c.vector) (process s p).kept

    abbrev kept_asked : ℕ → Bool
    kept_asked p = kept_sound s p && pins_sound s p

    abbrev records_asked : ℕ → Bool
    records_asked p = every (record_sound (process s p)) (process s p).kept

    -- All processes.
    owned_same : ((f : ℕ) → f < n → 1 ≤ own_in w f) → (all_below s.count owns_asked && all_below s.count vectors_asked && all_below s.count kept_asked && all_below s.count (row_unused s) && all_below s.count records_asked)
        ≡ (all_below n (counts_fit w) && all_below n (part_fits w))
    unfolding decoded
    owned_same owned =
        sym (all_both n (λ p. owns_asked p && vectors_asked p && kept_asked p && row_unused s p) records_asked
        ∙ ap (λ b. b && all_below n records_asked) (all_both n (λ p. owns_asked p && vectors_asked p && kept_asked p) (row_unused s)
        ∙ ap (λ b. b && all_below n (row_unused s)) (all_both n (λ p. owns_asked p && vectors_asked p) kept_asked ∙ ap (λ b. b && all_below n kept_asked) (all_both n owns_asked vectors_asked))))
        ∙ all_same n asked (λ p. counts_fit w p && part_fits w p) (λ p lt. one.process_same w high p lt (small (blocks_at_of p)) owned)
        ∙ all_both n (counts_fit w) (part_fits w)

    -- Where an own entry is 0, neither holds.
    own_off : (p : ℕ) → p < n → leb 1 (own_in w p) ≡ false → part_fits w p ≡ false
    unfolding part_fits part_tests holds
    own_off p lt e = sym (part_fails (part_tests w p) (test 0) e)

    first_off : (a b c d e : Bool) → a ≡ false → (a && b && c && d && e) ≡ false
    first_off a b c d e off = rw off

    unowned_same : (p : ℕ) → p < n → leb 1 (own_in w p) ≡ false
        → (all_below s.count owns_asked && all_below s.count vectors_asked && all_below s.count kept_asked && all_below s.count (row_unused s) && all_below s.count records_asked)
        ≡ (all_below n (counts_fit w) && all_below n (part_fits w))
    unfolding decoded
    unowned_same p lt e = both_false _ (all_below n (counts_fit w) && all_below n (part_fits w))
        (first_off (all_below n owns_asked) _ _ _ _ (sym (all_stop n owns_asked p lt (ap (λ (x : ℕ). leb 1 x) (parts.own_at w high p lt) ∙ e))))
        (and_no_right (all_below n (counts_fit w)) (all_below n (part_fits w)) (sym (all_stop n (part_fits w) p lt (own_off p lt e))))

    processes_same : (all_below s.count owns_asked && all_below s.count vectors_asked && all_below s.count kept_asked && all_below s.count (row_unused s) && all_below s.count records_asked)
        ≡ (all_below n (counts_fit w) && all_below n (part_fits w))
    processes_same = by_bool (all_below n (λ p. leb 1 (own_in w p)))
        (λ e. owned_same (λ f lt. leb-true 1 (own_in w f) (all_out n (λ p. leb 1 (own_in w p)) e f lt)))
        (λ e. let at = all_fails n (λ p. leb 1 (own_in w p)) e in unowned_same at.0 at.1 at.2)

    -- What stands at n and above is not in use.
    abbrev After : List Bool
    After =
        every (zero_from 0) (drop s.count s.vectors.0)
        ∷ every (nothing_from 0) (drop s.count s.pins.0)
        ∷ every not (drop s.count s.sent)
        ∷ every (every unused_checkpoint) (drop s.count s.kept.0)
        ∷ every (eqb 0) (drop s.count s.kept_count)
        ∷ []

    none_after : After ≡ (true ∷ true ∷ true ∷ true ∷ true ∷ [])
    unfolding decoded
    none_after =
        cons_same _ _ _ _ (parts.of_after w high (zero_from 0) (λ p. vector_in w (part_at p)) zero_vector zeros)
        (cons_same _ _ _ _ (parts.of_after w high (nothing_from 0) (λ p. pins_in w (pins_at_of p)) no_pins_of nothings)
        (cons_same _ _ _ _ (parts.of_after w high not (mark_in w) false refl)
        (cons_same _ _ _ _ (parts.of_after w high (every unused_checkpoint) (kept_in w) (replicate most_processes no_checkpoint) (every_replicate unused_checkpoint most_processes no_checkpoint parts.none_unused))
        (cons_same _ _ _ _ (parts.of_after w high (eqb 0) (λ p. word w (kept_count_at_of p)) 0 refl) refl))))

    -- The blocks of what each process keeps, where its counts and its part fit.
    filled : (p : ℕ) → part_fits w p ≡ true → all_below (word w (kept_count_at_of p)) (λ k. not (eqb (index_in_of w p k) 0)) ≡ true
    unfolding part_fits part_tests
    filled p e =
        let long : 4 < length (part_tests w p) = omega arith in
        let all = every_at (λ b. b) (part_tests w p) 4 true long e in
        all_in (word w (kept_count_at_of p)) (λ k. not (eqb (index_in_of w p k) 0)) (λ k lt. index_some w p k (all_out (word w (kept_count_at_of p)) (kept_fits w p) all k lt))

    blocks_of_lem : (p : ℕ) → p < n → counts_fit w p ≡ true → part_fits w p ≡ true → blocks_of (process s p).kept ≡ word w (kept_count_at_of p) * word w (blocks_at_of p)
    unfolding counts_fit
    blocks_of_lem p lt counts part =
        let few = leb-true (word w (kept_count_at_of p)) n (and_right (leb 1 (word w (kept_count_at_of p))) (leb (word w (kept_count_at_of p)) n) (and_left (leb 1 (word w (kept_count_at_of p)) && leb (word w (kept_count_at_of p)) n) (leb 1 (word w (blocks_at_of p))) counts)) in
        ap (λ (l : List Checkpoint). blocks_of l) (parts.kept_at w high p lt (omega arith) (filled p part)) ∙ clauses.kept_blocks_lem w p (word w (kept_count_at_of p))

    blocks_same : (all_below n (counts_fit w) && all_below n (part_fits w)) ≡ true → kept_blocks s ≡ blocks_in w n
    unfolding kept_blocks blocks_in decoded
    blocks_same e = sum_same n (λ p. blocks_of (process s p).kept) (λ p. word w (kept_count_at_of p) * word w (blocks_at_of p))
        (λ p lt. blocks_of_lem p lt (all_out n (counts_fit w) (and_left (all_below n (counts_fit w)) (all_below n (part_fits w)) e) p lt) (all_out n (part_fits w) (and_right (all_below n (counts_fit w)) (all_below n (part_fits w)) e) p lt))

    disk_words : (eqb s.disk.written (blocks_in w n + s.disk.deleted) && leb s.disk.written most_blocks) ≡ (eqb (wide4 w 4) (blocks_in w n + wide4 w 8) && leb (wide4 w 4) most_blocks)
    unfolding decoded
    disk_words = refl

    disk_same : (all_below n (counts_fit w) && all_below n (part_fits w)) ≡ true → (eqb s.disk.written (kept_blocks s + s.disk.deleted) && leb s.disk.written most_blocks) ≡ disk_fits w
    unfolding disk_fits
    disk_same e = rw (blocks_same e) disk_words

    abbrev disk : Bool
    disk = eqb s.disk.written (kept_blocks s + s.disk.deleted) && leb s.disk.written most_blocks

    after_true : all_of After ≡ true
    unfolding every
    after_true = ap (λ (l : List Bool). all_of l) none_after

    counted : count_sound s ≡ true
    unfolding count_sound decoded
    counted = and_both (leb 1 n) (leb n most_processes) (le-leb 1 n low) (le-leb n most_processes high)

    module _ (short : end_of w ≤ 64) where
      abbrev messages : List Bool
      messages = under_way_lem.asked_tests w high short

      -- All clauses of document 01, those about the processes, the disk, the messages and what is not in use each together.
      together : sound s
          ≡ ((all_below s.count owns_asked && all_below s.count vectors_asked && all_below s.count kept_asked && all_below s.count (row_unused s) && all_below s.count records_asked)
          && (eqb s.disk.written (kept_blocks s + s.disk.deleted) && leb s.disk.written most_blocks)
          && all_of messages && all_of After)
      unfolding sound own_sound vectors_sound messages_sound unused_sound disk_sound every holds each asks all_below
      together = rw counted (same_tests
          (all_below s.count owns_asked
          ∷ all_below s.count vectors_asked
          ∷ every (λ x. within s x.vector) (under_way s)
          ∷ all_below s.count kept_asked
          ∷ leb s.underway most_under_way
          ∷ ascending 1 (map (λ x. x.number) (under_way s))
          ∷ every (message_sound s) (under_way s)
          ∷ leb s.last most_messages
          ∷ all_below s.count (row_unused s)
          ∷ every (zero_from 0) (drop s.count s.vectors.0)
          ∷ every (nothing_from 0) (drop s.count s.pins.0)
          ∷ every not (drop s.count s.sent)
          ∷ every (every unused_checkpoint) (drop s.count s.kept.0)
          ∷ every (eqb 0) (drop s.count s.kept_count)
          ∷ every (λ x. zero_from s.count x.vector) (under_way s)
          ∷ every unused_message (drop s.underway s.messages)
          ∷ all_below s.count records_asked
          ∷ eqb s.disk.written (kept_blocks s + s.disk.deleted)
          ∷ leb s.disk.written most_blocks
          ∷ [])
          (none
          and test 0
          and (test 1 and test 2)
          and test 3
          and (test 4 and test 5 and test 6 and test 7)
          and (test 8 and test 9 and test 10 and test 11 and test 12 and test 13 and test 14 and test 15)
          and (test 16 and test 17 and test 18))
          ((test 0 and test 1 and test 3 and test 8 and test 16)
          and (test 17 and test 18)
          and each (test 4 ∷ test 5 ∷ test 6 ∷ test 7 ∷ (test 2 and test 14) ∷ test 15 ∷ [])
          and each (test 9 ∷ test 10 ∷ test 11 ∷ test 12 ∷ test 13 ∷ []))
          refl
          refl)

      decoded_same : sound s ≡ ((all_below n (counts_fit w) && all_below n (part_fits w)) && disk_fits w && under_way_lem.word_tests w high short)
      decoded_same =
          together
          ∙ ap (λ b. b && disk && all_of messages && all_of After) processes_same
          ∙ ap (λ b. (all_below n (counts_fit w) && all_below n (part_fits w)) && disk && b && all_of After) (under_way_lem.messages_same w high short)
          ∙ ap (λ b. (all_below n (counts_fit w) && all_below n (part_fits w)) && disk && under_way_lem.word_tests w high short && b) after_true
          ∙ and_true ((all_below n (counts_fit w) && all_below n (part_fits w)) && disk && under_way_lem.word_tests w high short)
          ∙ ap (λ b. b && under_way_lem.word_tests w high short) (under (all_below n (counts_fit w) && all_below n (part_fits w)) disk (disk_fits w) disk_same)

  -- The test of the words, grouped alike.
  abbrev message_words : Bool
  message_words = all_below (end_of w) (message_fits w) && (all_below (end_of w) (carried_fits w) && (eqb (count_below (end_of w) (λ k. not (eqb (number_in w k) 0))) (word w 1) && (leb (number_before w (end_of w)) (wide2 w 2) && leb (wide2 w 2) most_messages)))

  in_groups : sound_in w ≡ (fits w && ((leb 1 n && leb n most_processes) && ((all_below n (counts_fit w) && all_below n (part_fits w)) && disk_fits w && message_words)))
  unfolding sound_in sound_tests messages_tests fits end_fits_of is_message message_in every holds each asks all_below
  in_groups = same_tests
      (eqb (length w) state_size
      ∷ leb 1 n
      ∷ leb n most_processes
      ∷ all_below n (counts_fit w)
      ∷ all_below n (part_fits w)
      ∷ disk_fits w
      ∷ leb (end_of w) most_under_way
      ∷ (eqb (end_of w) 0 || not (eqb (number_in w (end_of w - 1)) 0))
      ∷ all_below (end_of w) (message_fits w)
      ∷ all_below (end_of w) (carried_fits w)
      ∷ eqb (count_below (end_of w) (λ k. not (eqb (number_in w k) 0))) (word w 1)
      ∷ leb (number_before w (end_of w)) (wide2 w 2)
      ∷ leb (wide2 w 2) most_messages
      ∷ [])
      (each (test 0 ∷ test 1 ∷ test 2 ∷ test 3 ∷ test 4 ∷ test 5 ∷ each (test 6 ∷ test 7 ∷ test 8 ∷ test 9 ∷ test 10 ∷ test 11 ∷ test 12 ∷ []) ∷ []))
      ((test 0 and (test 6 and test 7)) and ((test 1 and test 2) and ((test 3 and test 4) and test 5 and (test 8 and (test 9 and (test 10 and (test 11 and test 12)))))))
      refl
      refl

  short_of : fits w ≡ true → end_of w ≤ 64
  unfolding fits end_fits_of
  short_of e = leb-true (end_of w) 64 (and_left (leb (end_of w) most_under_way) (eqb (end_of w) 0 || is_message (message_in w (end_of w - 1))) (and_right (eqb (length w) state_size) (end_fits_of w) e))

  -- Words that fit.
  fitting : fits w ≡ true → ((leb 1 n && leb n most_processes) && ((all_below n (counts_fit w) && all_below n (part_fits w)) && disk_fits w && message_words)) ≡ sound s
  fitting f = by_bool (leb 1 n && leb n most_processes)
      (λ e. rw e (sym (decoded_same (leb-true 1 n (and_left (leb 1 n) (leb n most_processes) e)) (leb-true n most_processes (and_right (leb 1 n) (leb n most_processes) e)) (short_of f))))
      (λ e. rw e (sym (count_off e)))

  pub test_is_sound : sound_in w ≡ sound (run_of w)
  unfolding run_of
  test_is_sound = in_groups ∙ by_bool (fits w)
      (λ f. rw f (fitting f))
      (λ f. rw f (sym blank_off))
