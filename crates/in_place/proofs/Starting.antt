-- What a start leaves of the words stands for the first state of a run, and holds zero in every unused place.
-- Assumes nothing.
use Rattle.std.specs.Prelude.{◌≡◌, ◌&&◌, ◌∷◌, ◌+◌, ◌-◌, ◌*◌, ◌≤◌, ◌<◌, Some}
use Rattle.laws.specs.Basics.{refl, sym, ◌∙◌, ap, true, false, not, List, [], None, ℕ, zero, suc, arith, eqb, leb, length, get_or, take, set, replicate, length-set, length-replicate, get_or-replicate, get_or-set_same, get_or-set_other, eq-eqb, eqb-true, le-ltb, ltb-false, leb-true, not-false, by_bool, by_eq}
use native.Mathlib.Numerals.{add-one}
use Rattle.laws.specs.{Lists.table, Search.all_below, Search.any_none, Search.all_in, Sums.sum_below, Tables.table_is, Truth.and_right}
use Rattle.model.specs.declared.{Interval.Interval, Checkpoint.Checkpoint}
use Rattle.model.specs.{Words.zero_vector, Words.no_pins_of, Words.blank, Sound.is_block_count_of}
use Rattle.model.specs.{Steps.with_processes, Steps.checkpoint_zero, Steps.started, Steps.start_state, Steps.opening, Words.ones, Words.most_processes}
use Rattle.model.specs.{laws.Refusals.no_rule, laws.Refusals.by_refusal, Refusals.first_of, Refusals.start_refusal}
use Rattle.words.specs.Layout.{state_size, word, wide4, count_of, kept_count_at_of, mark_at, blocks_at_of, part_at, pins_at_of, index_at_of, cause_at_of, stored_at, pin_of_def, vector_in, pins_in, mark_in, checkpoint_in, kept_in, fits, run_of}
use Rattle.words.specs.{Parts.process_in, Frames.OnlyProcess, Frames.OnlyDisk, Clean.Clean, Clean.CleanKept, Puts.puts, Puts.one, Puts.puts4}
use Rattle.words.proofs.{Reading.untouched, Reading.touched, Reading.puts_length, Reading.wide4_back, Same.vector_is, View.run_unfit, View.kept_table}
use Rattle.words.proofs.{ViewBlank.blank_fits, ViewBlank.blank_run, ViewBlank.blank_clean, ViewChange.process_fits, ViewChange.with_disk_lem}
use Rattle.words.proofs.{ViewClean.clean_process, ViewClean.clean_disk, ViewParts.process_by, ViewParts.with_processes_step}
use Rattle.in_place.specs.Starting.{zeros, with_counts, counted, first_puts, with_firsts, begun, started_words, start_refusal_in, start_outcome_in, start_words}
use Rattle.whole_runs.specs.Outcomes.{start_outcome}

pub zeros_length : length zeros ≡ state_size
unfolding zeros
zeros_length = length-replicate {A = ℕ} state_size 0

replicate_zero : (n k : ℕ) → word (replicate n 0) k ≡ 0
replicate_zero zero k = refl
replicate_zero (suc n) zero = refl
replicate_zero (suc n) (suc k) = replicate_zero n k

pub zeros_word : (k : ℕ) → word zeros k ≡ 0
unfolding zeros
zeros_word k = replicate_zero state_size k

pub zeros_run : run_of zeros ≡ blank 0
zeros_run = blank_run zeros (λ k low lt. zeros_word k) (λ k low. zeros_word k) zeros_length ∙ ap blank (zeros_word 0)

pub zeros_clean : Clean zeros
zeros_clean = blank_clean zeros (λ k low lt. zeros_word k) (λ k low. zeros_word k) (λ p le lt. zeros_word (blocks_at_of p))

module _ (n : ℕ) (block_counts : List ℕ) (few : n ≤ 16) where
  pub counted_length : (k : ℕ) → length (counted n block_counts k) ≡ state_size
  unfolding counted with_counts
  counted_length zero = puts_length zeros (one 0 n ∷ []) ∙ zeros_length
  counted_length (suc k) = puts_length (counted n block_counts k) (one (blocks_at_of k) (get_or block_counts k 0) ∷ []) ∙ counted_length k

  counted_count : (k : ℕ) → word (counted n block_counts k) 0 ≡ n
  unfolding counted with_counts
  counted_count zero = touched zeros (one 0 n ∷ []) 0 0 0 (omega arith, omega arith, omega (arith, zeros_length), tt)
  counted_count (suc k) = untouched (counted n block_counts k) (one (blocks_at_of k) (get_or block_counts k 0) ∷ []) 0 (omega arith) ∙ counted_count k

  counted_rest : (k q : ℕ) → k ≤ 16 → 1 ≤ q → (48 ≤ q → q < 48 + k → ⊥) → word (counted n block_counts k) q ≡ 0
  unfolding counted with_counts
  counted_rest zero q le low out = untouched zeros (one 0 n ∷ []) q (omega arith) ∙ zeros_word q
  counted_rest (suc k) q le low out = untouched (counted n block_counts k) (one (blocks_at_of k) (get_or block_counts k 0) ∷ []) q (λ a b. out (omega arith) (omega arith), tt)
      ∙ counted_rest k q (omega arith) low (λ a b. out a (omega arith))

  counted_blocks : (k p : ℕ) → k ≤ 16 → p < k → word (counted n block_counts k) (blocks_at_of p) ≡ get_or block_counts p 0
  unfolding counted with_counts
  counted_blocks zero p le lt = absurd (omega arith)
  counted_blocks (suc k) p le lt = by_eq p k
      (λ e. rw e (touched (counted n block_counts k) (one (blocks_at_of k) (get_or block_counts k 0) ∷ []) 0 0 (blocks_at_of k) (omega arith, omega arith, omega (arith, counted_length k), tt)))
      (λ ne. untouched (counted n block_counts k) (one (blocks_at_of k) (get_or block_counts k 0) ∷ []) (blocks_at_of p) (λ a b. ne (omega arith), tt) ∙ counted_blocks k p (omega arith) (omega arith))

  abbrev c : List ℕ
  c = counted n block_counts n

  front : (k : ℕ) → 1 ≤ k → k < 48 → word c k ≡ 0
  front k low lt = counted_rest n k few low (λ a b. omega arith)

  rest : (k : ℕ) → 64 ≤ k → word c k ≡ 0
  rest k low = counted_rest n k few (omega arith) (λ a b. omega arith)

  -- What the first k processes have, and the others not yet.
  pub record Begun (k : ℕ) (w : List ℕ) : Type 0 where
    pub long : length w ≡ state_size
    pub count : count_of w ≡ n
    pub fit : fits w ≡ true
    pub blocks : (p : ℕ) → p < n → word w (blocks_at_of p) ≡ get_or block_counts p 0
    pub part : (p q : ℕ) → k ≤ p → p < 16 → q < 320 → word w (part_at p + q) ≡ 0
    pub kept_count : (p : ℕ) → k ≤ p → p < 16 → word w (kept_count_at_of p) ≡ 0
    pub mark : (p : ℕ) → p < 16 → word w (mark_at p) ≡ 0
    pub disk : (q : ℕ) → 4 ≤ q → q < 12 → word w q ≡ 0
    pub run : run_of w ≡ with_processes k (started block_counts) (blank n)
    pub clean : Clean w

  first_begun : Begun 0 c
  unfolding with_processes
  first_begun = record {
    long = counted_length n;
    count = counted_count n;
    fit = blank_fits c front rest (counted_length n);
    blocks = λ p lt. counted_blocks n p few lt;
    part = λ p q le lt less. rest (part_at p + q) (omega arith);
    kept_count = λ p le lt. front (kept_count_at_of p) (omega arith) (omega arith);
    mark = λ p lt. front (mark_at p) (omega arith) (omega arith);
    disk = λ q low lt. front q (omega arith) (omega arith);
    run = blank_run c front rest (counted_length n) ∙ ap blank (counted_count n);
    clean = blank_clean c front rest (λ p le lt. counted_rest n (blocks_at_of p) few (omega arith) (λ a b. omega (arith, counted_count n)));
  }

  -- One more process has its checkpoint 0.
  module _ (k : ℕ) (w : List ℕ) (lt : k < n) (h : Begun k w) where
    abbrev v : List ℕ
    v = puts w (first_puts k)

    room : k < 16
    room = omega arith

    own : word v (part_at k + k) ≡ 1
    own = touched w (first_puts k) 0 0 (part_at k + k) (omega arith, omega arith, omega (arith, h.long), omega arith)

    own_pin : word v (pins_at_of k + k) ≡ 1
    own_pin = touched w (first_puts k) 1 0 (pins_at_of k + k) (omega arith, omega arith, omega (arith, h.long), omega arith)

    index : word v (index_at_of k 0) ≡ 1
    index = touched w (first_puts k) 2 0 (index_at_of k 0) (omega arith, omega arith, omega (arith, h.long), omega arith)

    kept_count_one : word v (kept_count_at_of k) ≡ 1
    kept_count_one = touched w (first_puts k) 3 0 (kept_count_at_of k) (omega arith, omega arith, omega (arith, h.long), tt)

    -- the rest of its part is zero
    zero_part : (q : ℕ) → q < 320 → (q ≡ k → ⊥) → (q ≡ 16 + k → ⊥) → (q ≡ 32 → ⊥) → word v (part_at k + q) ≡ 0
    zero_part q less a b c = untouched w (first_puts k) (part_at k + q) ((λ x y. a (omega arith)), ((λ x y. b (omega arith)), ((λ x y. c (omega arith)), (omega arith, tt)))) ∙ h.part k q (omega arith) room less

    vector_first : vector_in v (part_at k) ≡ set zero_vector k (record { 0 = 1 })
    vector_first = vector_is v (part_at k) (set zero_vector k (record { 0 = 1 })) (length-set zero_vector k (record { 0 = 1 }))
        (λ f less. by_eq f k
        (λ e. rw e (own ∙ ap (λ (x : Interval). x.0) (sym (get_or-set_same zero_vector k (record { 0 = 1 }) (record { 0 = 0 }) room))))
        (λ ne. zero_part f (omega arith) ne (λ z. omega arith) (λ z. omega arith)
        ∙ ap (λ (x : Interval). x.0) (sym (get_or-set_other zero_vector k f (record { 0 = 1 }) (record { 0 = 0 }) ne ∙ get_or-replicate 16 f (record { 0 = 0 }) (record { 0 = 0 }) less))))

    pins_first : pins_in v (pins_at_of k) ≡ set no_pins_of k (Some (record { 0 = 0 }))
    unfolding pins_in pin_of_def
    pins_first = sym (table_is None (set no_pins_of k (Some (record { 0 = 0 }))) 16 (λ f. pin_of_def (word v (pins_at_of k + f))) (length-set no_pins_of k (Some (record { 0 = 0 })))
        (λ f less. by_eq f k
        (λ e. rw e (get_or-set_same no_pins_of k (Some (record { 0 = 0 })) None room ∙ ap pin_of_def (sym own_pin)))
        (λ ne. get_or-set_other no_pins_of k f (Some (record { 0 = 0 })) None ne ∙ get_or-replicate 16 f None None less ∙ ap pin_of_def (sym (pin_word f less ne)))))
      where
        pin_word : (f : ℕ) → f < 16 → (f ≡ k → ⊥) → word v (pins_at_of k + f) ≡ 0
        pin_word f less ne = ap (word v) (let e : pins_at_of k + f ≡ part_at k + (16 + f) = omega arith in e) ∙ zero_part (16 + f) (omega arith) (λ z. omega arith) (λ z. ne (omega arith)) (λ z. omega arith)

    stored_zero : vector_in v (stored_at k 0) ≡ zero_vector
    stored_zero = vector_is v (stored_at k 0) zero_vector (length-replicate {A = Interval} 16 (record { 0 = 0 }))
        (λ f less.
        ap (word v) (let e : stored_at k 0 + f ≡ part_at k + (64 + f) = omega arith in e) ∙ zero_part (64 + f) (omega arith) (λ z. omega arith) (λ z. omega arith) (λ z. omega arith)
        ∙ ap (λ (x : Interval). x.0) (sym (get_or-replicate 16 f (record { 0 = 0 }) (record { 0 = 0 }) less)))

    blocks_stay : (p : ℕ) → p < 16 → word v (blocks_at_of p) ≡ word w (blocks_at_of p)
    blocks_stay p less = untouched w (first_puts k) (blocks_at_of p) (omega arith)

    cause_zero : word v (cause_at_of k 0) ≡ 0
    cause_zero = ap (word v) (let e : cause_at_of k 0 ≡ part_at k + 48 = omega arith in e) ∙ zero_part 48 (omega arith) (λ z. omega arith) (λ z. omega arith) (λ z. omega arith)

    checkpoint_first : checkpoint_in v k 0 ≡ checkpoint_zero (get_or block_counts k 0)
    unfolding checkpoint_in checkpoint_zero
    checkpoint_first = rw (index, stored_zero, cause_zero, blocks_stay k room, h.blocks k lt) refl

    kept_first : take (word v (kept_count_at_of k)) (kept_in v k) ≡ checkpoint_zero (get_or block_counts k 0) ∷ []
    unfolding process_in table
    kept_first =
        kept_table v k (omega (arith, kept_count_one)) (λ j less. ap_one j less)
        ∙ ap (λ (m : ℕ). table m (checkpoint_in v k)) kept_count_one
        ∙ ap (λ (c : Checkpoint). c ∷ []) checkpoint_first
      where
        ap_one : (j : ℕ) → j < word v (kept_count_at_of k) → 1 ≤ word v (index_at_of k j)
        ap_one j less = let e : j ≡ 0 = omega (arith, kept_count_one) in rw e (omega (arith, index))

    mark_first : mark_in v k ≡ false
    unfolding mark_in
    mark_first = rw (untouched w (first_puts k) (mark_at k) (omega arith), h.mark k room)

    process_first : process_in v k ≡ started block_counts k
    unfolding started
    process_first = process_by v k (started block_counts k) vector_first pins_first mark_first kept_first

    only : OnlyProcess w v k
    only = record {
      size = puts_length w (first_puts k);
      front = λ q less a b. untouched w (first_puts k) q (omega arith, (omega arith, (omega arith, ((λ x y. a (omega arith)), tt))));
      lower = λ q low less. untouched w (first_puts k) q (omega arith);
      upper = λ q low. untouched w (first_puts k) q (omega arith);
    }

    clean_first : CleanKept v k
    clean_first = record {
      index = λ j le less. ap (word v) (let e : index_at_of k j ≡ part_at k + (32 + j) = omega arith in e) ∙ zero_part (32 + j) (omega arith) (λ z. omega arith) (λ z. omega arith) (λ z. omega (arith, kept_count_one));
      cause = λ j le less. ap (word v) (let e : cause_at_of k j ≡ part_at k + (48 + j) = omega arith in e) ∙ zero_part (48 + j) (omega arith) (λ z. omega arith) (λ z. omega arith) (λ z. omega arith);
      vector = λ j f le less under. ap (word v) (let e : stored_at k j + f ≡ part_at k + (64 + (16 * j + f)) = omega arith in e)
          ∙ zero_part (64 + (16 * j + f)) (omega arith) (λ z. omega arith) (λ z. omega arith) (λ z. omega arith);
    }

    one_begun : Begun (k + 1) v
    one_begun =
        let below : k < count_of w = omega (arith, h.count) in
        let most : count_of w ≤ 16 = omega (arith, h.count) in
        record {
          long = puts_length w (first_puts k) ∙ h.long;
          count = untouched w (first_puts k) 0 (omega arith) ∙ h.count;
          fit = process_fits w v k h.fit below most only;
          blocks = λ p less. blocks_stay p (omega arith) ∙ h.blocks p less;
          part = λ p q le less under. untouched w (first_puts k) (part_at p + q) (omega arith) ∙ h.part p q (omega arith) less under;
          kept_count = λ p le less. untouched w (first_puts k) (kept_count_at_of p) (omega arith) ∙ h.kept_count p (omega arith) less;
          mark = λ p less. untouched w (first_puts k) (mark_at p) (omega arith) ∙ h.mark p less;
          disk = λ q low less. untouched w (first_puts k) q (omega arith) ∙ h.disk q low less;
          run = with_processes_step w v k (started block_counts) (blank n) h.fit below most only (omega (arith, kept_count_one)) process_first h.run;
          clean = clean_process w v k below most only clean_first h.clean;
        }

  begun_is : (k : ℕ) → k ≤ n → Begun k (begun n block_counts k)
  unfolding begun with_firsts
  begun_is zero le = first_begun
  begun_is (suc k) le = rw (← add-one k) (one_begun k (begun n block_counts k) (omega arith) (begun_is k (omega arith)))

  abbrev b : List ℕ
  b = begun n block_counts n

  abbrev sum : ℕ
  sum = sum_below n (λ p. get_or block_counts p 0)

  disk_only : OnlyDisk b (started_words n block_counts)
  unfolding started_words
  disk_only = record {
    size = puts_length b (puts4 4 sum);
    front = λ q less. untouched b (puts4 4 sum) q (omega arith);
    rest = λ q low. untouched b (puts4 4 sum) q (omega arith);
  }

  written_is : wide4 (started_words n block_counts) 4 ≡ sum
  unfolding started_words
  written_is =
      let long = (begun_is n (omega arith)).long in
      rw (
        touched b (puts4 4 sum) 0 0 4 (omega arith, omega arith, omega (arith, long), omega arith),
        touched b (puts4 4 sum) 1 0 5 (omega arith, omega arith, omega (arith, long), omega arith),
        touched b (puts4 4 sum) 2 0 6 (omega arith, omega arith, omega (arith, long), omega arith),
        touched b (puts4 4 sum) 3 0 7 (omega arith, omega arith, omega (arith, long), tt),
      )
      (wide4_back sum)

  deleted_is : wide4 (started_words n block_counts) 8 ≡ 0
  unfolding started_words
  deleted_is =
      let g = begun_is n (omega arith) in
      rw (
        untouched b (puts4 4 sum) 8 (omega arith),
        untouched b (puts4 4 sum) 9 (omega arith),
        untouched b (puts4 4 sum) 10 (omega arith),
        untouched b (puts4 4 sum) 11 (omega arith),
        g.disk 8 (omega arith) (omega arith),
        g.disk 9 (omega arith) (omega arith),
        g.disk 10 (omega arith) (omega arith),
        g.disk 11 (omega arith) (omega arith),
      )

  pub started_run : run_of (started_words n block_counts) ≡ start_state n block_counts
  unfolding start_state opening
  started_run = with_disk_lem b (started_words n block_counts) disk_only (begun_is n (omega arith)).fit ∙ rw (written_is, deleted_is, (begun_is n (omega arith)).run)

  pub started_clean : Clean (started_words n block_counts)
  started_clean = clean_disk b (started_words n block_counts) disk_only (begun_is n (omega arith)).clean

  pub started_length : length (started_words n block_counts) ≡ state_size
  started_length = disk_only.size ∙ (begun_is n (omega arith)).long

not_size : (w : List ℕ) → eqb (length w) state_size ≡ false → fits w ≡ false
unfolding fits
not_size w q = rw q

-- An accepted start has 1 to 16 processes and words of the right number.
module _ (many n : ℕ) (block_counts : List ℕ) (fine : start_refusal_in many n block_counts ≡ None) where
  pub accepted_few : n ≤ 16
  unfolding start_refusal_in
  accepted_few = leb-true n 16 (and_right (leb 1 n) (leb n 16) (not-false _ (no_rule _ fine 0)))

  pub accepted_size : many ≡ state_size
  unfolding start_refusal_in
  accepted_size = eqb-true many state_size (not-false _ (no_rule _ fine 1))

  pub accepted_long : n ≤ length block_counts
  unfolding start_refusal_in
  accepted_long = ltb-false (length block_counts) n (no_rule _ fine 2)

  pub accepted_counts : all_below n (λ p. is_block_count_of (get_or block_counts p 0)) ≡ true
  unfolding start_refusal_in
  accepted_counts = all_in n (λ p. is_block_count_of (get_or block_counts p 0)) (λ p lt. not-false _ (any_none n (λ q. not (is_block_count_of (get_or block_counts q 0))) (no_rule _ fine 3) p lt))

-- The whole start.
pub start_run : (w : List ℕ) (n : ℕ) (block_counts : List ℕ) → run_of (start_words w n block_counts) ≡ (start_outcome_in (length w) n block_counts).run
unfolding start_words start_outcome_in
start_run w n block_counts = by_refusal (start_refusal_in (length w) n block_counts)
    (λ fine. rw fine (started_run n block_counts (accepted_few (length w) n block_counts fine)))
    (λ why e. rw e (by_bool (eqb (length w) state_size)
    (λ q. rw q zeros_run)
    (λ q. rw q (run_unfit w (not_size w q)))))

pub start_clean : (w : List ℕ) (n : ℕ) (block_counts : List ℕ) → length w ≡ state_size → Clean (start_words w n block_counts)
unfolding start_words
start_clean w n block_counts long = by_refusal (start_refusal_in (length w) n block_counts)
    (λ fine. rw fine (started_clean n block_counts (accepted_few (length w) n block_counts fine)))
    (λ why e. rw (e, eq-eqb (length w) state_size long) zeros_clean)

pub start_length : (w : List ℕ) (n : ℕ) (block_counts : List ℕ) → length (start_words w n block_counts) ≡ length w
unfolding start_words
start_length w n block_counts = by_refusal (start_refusal_in (length w) n block_counts)
    (λ fine. rw fine (started_length n block_counts (accepted_few (length w) n block_counts fine) ∙ sym (accepted_size (length w) n block_counts fine)))
    (λ why e. rw e (by_bool (eqb (length w) state_size)
    (λ q. rw q (zeros_length ∙ sym (eqb-true (length w) state_size q)))
    (λ q. rw q refl)))

-- With as many words and block counts as a state has, a start in place is refused exactly as a start by value is.
pub refusal_same : (n : ℕ) → start_refusal_in state_size n ones ≡ start_refusal n ones
unfolding start_refusal_in start_refusal first_of
refusal_same n = by_bool (leb 1 n && leb n most_processes)
    (λ h. rw (h, le-ltb (length ones) n (leb-true n most_processes (and_right (leb 1 n) (leb n most_processes) h))) refl)
    (λ h. rw h refl)

pub outcome_same : (n : ℕ) → start_outcome_in state_size n ones ≡ start_outcome n ones
unfolding start_outcome_in start_outcome
outcome_same n = rw (refusal_same n) refl
