-- The pairs of a list that was copied: the call says the same of both.
-- Assumes nothing.
use Rattle.std.specs.Prelude.{◌≡◌, ◌&&◌, ◌||◌, ◌⊎◌, ◌+◌, ◌*◌, ◌/◌, ◌%◌, ◌≤◌, ◌<◌, Err}
use Rattle.laws.specs.Basics.{refl, sym, ◌∙◌, ap, Bool, true, false, List, [], Some, inl, inr, ℕ, arith, eqb, ltb, leb, length, get_or, take, set, replicate, length-set, get_or-set_same, get_or-set_other, length-take-le, ne_eqb, lt-ltb, ltb-false, le-leb, lt-leb, leb-false, pick, by_bool, by_eq}
use lib.Seq.{get_or-take}
use Rattle.laws.specs.{Lists.table, Rows.by_lt, Rows.some_at, Loops.either, Search.any_below, Search.any_in, Search.any_out, Truth.never_both}
use Rattle.laws.specs.Tables.{length_table, get_d_table, table_same, table_is, table_replicate}
use Rattle.model.specs.declared.{Named.Named, Run.Run, Refusal.Refusal}
use Rattle.model.specs.{laws.Sound.sound_state}
use Rattle.whole_runs.specs.{Earliest.some_absent, Earliest.unfit, Earliest.earliest_refusal, Earliest.earliest_outcome}
use Rattle.words_line.specs.{Through.pair_count_of, Through.process_of, Through.named_at, Through.named_in, earliest.Pairs.SameLine}
use Rattle.words_line.proofs.{Reaching.absent_is, earliest.Lists.copy_length, earliest.Lists.copy_process, earliest.Lists.copy_taken}
use Rattle.words_line.specs.declared.earliest.list.Copied.{Copied}
use Rattle.words_line.specs.earliest.Copying.{no_named, copy_of}
use Rattle.words_line.proofs.earliest.Calling.{gives_short, gives_absent, gives_unfit}

-- The numbers of m pairs are m pairs.
even : (m : ℕ) → pair_count_of (2 * m) ≡ m
unfolding pair_count_of
even m = rw (ne_eqb ((2 * m) % 2) 1 (omega arith)) (omega arith)

-- One pair more.
pub pair_more : (named : List Named) (numbers : List ℕ) (k : ℕ) (c : Named) → length numbers ≡ 34 → k < 16 → ((j : ℕ) → j < k → named_at numbers j ≡ get_or named j no_named)
    → c ≡ get_or named k no_named → (j : ℕ) → j < k + 1 → named_at (set (set numbers (2 * k) c.process) (2 * k + 1) c.index.0) j ≡ get_or named j no_named
unfolding named_at
pair_more named numbers k c long few inv e j lt = by_eq j k
    (λ q. rw (
      q,
      get_or-set_other (set numbers (2 * k) c.process) (2 * k + 1) (2 * k) c.index.0 0 (λ z. omega arith),
      get_or-set_same numbers (2 * k) c.process 0 (omega arith),
      get_or-set_same (set numbers (2 * k) c.process) (2 * k + 1) c.index.0 0 (omega (arith, length-set numbers (2 * k) c.process)),
    ) e)
    (λ q. rw (
      get_or-set_other (set numbers (2 * k) c.process) (2 * k + 1) (2 * j) c.index.0 0 (λ z. q (omega arith)),
      get_or-set_other (set numbers (2 * k) c.process) (2 * k + 1) (2 * j + 1) c.index.0 0 (λ z. q (omega arith)),
      get_or-set_other numbers (2 * k) (2 * j) c.process 0 (λ z. q (omega arith)),
      get_or-set_other numbers (2 * k) (2 * j + 1) c.process 0 (λ z. q (omega arith)),
    )
    (inv j (by_lt j k (λ h. h) (λ h. absurd (q (omega arith))))))

-- Of a list that is copied whole the pairs are its elements.
exact : (l : List Named) (r : List ℕ) → length r ≡ 34 → length l ≤ 16 → ((k : ℕ) → k < length l → named_at r k ≡ get_or l k no_named) → named_in (take (2 * length l) r) ≡ l
unfolding named_in named_at
exact l r long few at =
    let size : length (take (2 * length l) r) ≡ 2 * length l = length-take-le (2 * length l) r (omega arith) in
    ap (λ (m : ℕ). table m (named_at (take (2 * length l) r))) (ap pair_count_of size ∙ even (length l))
    ∙ table_same (length l) _ (λ k. get_or l k no_named) (λ k lt. rw (get_or-take (2 * length l) r (2 * k) 0 (omega arith), get_or-take (2 * length l) r (2 * k + 1) 0 (omega arith)) (at k lt))
    ∙ sym (table_is no_named l (length l) (λ k. get_or l k no_named) refl (λ i lt. refl))

-- Lists that are refused by the same number before 19.
outcome_refused : (s : Run) (l : List Named) (line : List ℕ) (r : Refusal) → earliest_refusal s l line ≡ Some r
    → earliest_outcome s l line ≡ record { run = s; answer = Err r; rose = 0; deleted = []; line = line }
unfolding earliest_outcome
outcome_refused s l line r e = rw e

same_refusal : (l m : List Named) → ((n : ℕ) → 1 ≤ n → n ≤ 16 → some_absent n m ≡ some_absent n l)
    → ((n : ℕ) → 1 ≤ n → n ≤ 16 → some_absent n l ≡ false → (unfit n l ≡ true) × (unfit n m ≡ true)) → SameLine l m
unfolding SameLine
same_refusal l m absent long s whole line =
    let st = sound_state s whole in
    let also = absent s.count st.count_some st.count_most in
    by_lt (length line) s.count
    (λ short. outcome_refused s m line _ (gives_short s m line whole short) ∙ sym (outcome_refused s l line _ (gives_short s l line whole short)))
    (λ room. by_bool (some_absent s.count l)
    (λ e. outcome_refused s m line _ (gives_absent s m line whole room (also ∙ e)) ∙ sym (outcome_refused s l line _ (gives_absent s l line whole room e)))
    (λ e. let u = long s.count st.count_some st.count_most e in
    outcome_refused s m line _ (gives_unfit s m line whole room (also ∙ e) u.1) ∙ sym (outcome_refused s l line _ (gives_unfit s l line whole room e u.0))))

long_unfit : (n : ℕ) (l : List Named) → n < length l → unfit n l ≡ true
unfolding unfit
long_unfit n l h = rw (lt-ltb n (length l) h) (any_or (eqb (length l) 0) _)
  where
    any_or : (a b : Bool) → (a || true || b) ≡ true
    any_or true b = refl
    any_or false b = refl

-- 17 pairs of one number.
module _ (c : ℕ) (numbers : List ℕ) (long : length numbers ≡ 34) (each : (k : ℕ) → k < 34 → get_or numbers k 0 ≡ c) where
  many : pair_count_of (length numbers) ≡ 17
  many = ap pair_count_of long ∙ even 17

  all_absent : (n : ℕ) → some_absent n (named_in numbers) ≡ leb n c
  all_absent n =
      let here : (k : ℕ) → k < 17 → leb n (process_of numbers k) ≡ leb n c = λ k lt. ap (leb n) (each (2 * k) (omega arith)) in
      absent_is numbers n ∙ rw many (by_bool (leb n c)
      (λ e. any_in 17 (λ k. leb n (process_of numbers k)) 0 (omega arith) (here 0 (omega arith) ∙ e) ∙ sym e)
      (λ e. by_bool (any_below 17 (λ k. leb n (process_of numbers k)))
      (λ q. let w = any_out 17 (λ k. leb n (process_of numbers k)) q in absurd (never_both (leb n (process_of numbers w.0)) w.2 (here w.0 w.1 ∙ e)))
      (λ q. q ∙ sym e)))

  all_unfit : (n : ℕ) → n ≤ 16 → unfit n (named_in numbers) ≡ true
  unfolding named_in
  all_unfit n few = long_unfit n (named_in numbers) (omega (arith, length_table (pair_count_of (length numbers)) (named_at numbers), many))

  -- the greatest process of a list that is not copied whole
  module _ (t : Copied) (l : List Named) (e : t ≡ copy_of l) (is : c ≡ pick (ltb t.process 16) t.process 16) (rest : 16 < t.length ⊎ 16 ≤ t.process) where
    greatest_is : (n : ℕ) → 1 ≤ n → n ≤ 16 → leb n c ≡ some_absent n l
    greatest_is n pos few = by_bool (ltb t.process 16)
        (λ q. ap (leb n) (is ∙ rw q) ∙ named)
        (λ q. ap (leb n) (is ∙ rw q) ∙ le-leb n 16 few ∙ sym (le-leb n t.process (omega (arith, ltb-false t.process 16 q))) ∙ named)
      where
        named : leb n t.process ≡ some_absent n l
        named = ap (λ (x : Copied). leb n x.process) e ∙ copy_process n pos l

    pub rest_same : SameLine l (named_in numbers)
    rest_same = same_refusal l (named_in numbers) (λ n pos few. all_absent n ∙ greatest_is n pos few) (λ n pos few present. (
      long_unfit n l (either rest
          (λ h. let size : t.length ≡ length l = ap (λ (x : Copied). x.length) e ∙ copy_length l in omega arith)
          (λ h. absurd (never_both (some_absent n l) (sym (copy_process n pos l) ∙ ap (λ (x : Copied). leb n x.process) (sym e) ∙ le-leb n t.process (omega arith)) present))),
      all_unfit n few,
    ))

pub same_numbers : (c k : ℕ) → k < 34 → get_or (replicate 34 c) k 0 ≡ c
same_numbers c k lt = ap (λ (l : List ℕ). get_or l k 0) (table_replicate 34 c) ∙ get_d_table 34 (λ j. c) k 0 lt

pub not_whole : (m p : ℕ) → (leb m 16 && ltb p 16) ≡ false → 16 < m ⊎ 16 ≤ p
not_whole m p e = by_bool (leb m 16)
    (λ q. inr (ltb-false p 16 (rw q at e)))
    (λ q. inl (leb-false m 16 q))

-- Of one that is.
module _ (t : Copied) (l : List Named) (e : t ≡ copy_of l) (few : t.length ≤ 16) where
  size : t.length ≡ length l
  size = ap (λ (x : Copied). x.length) e ∙ copy_length l

  same_element : (k : ℕ) → k < t.length → get_or t.named k no_named ≡ get_or l k no_named
  same_element k lt =
      ap (λ (x : Copied). get_or x.named k no_named) e ∙ sym (get_or-take (length l) (copy_of l).named k no_named (omega (arith, size)))
      ∙ ap (λ (m : List Named). get_or m k no_named) (copy_taken l (omega (arith, size)))

  pub process_low : t.process < 16 → (k : ℕ) → k < t.length → (get_or t.named k no_named).process < 16
  unfolding some_absent
  process_low low k lt = by_bool (leb 16 (get_or l k no_named).process)
      (λ q. absurd (never_both (some_absent 16 l) (some_at (λ c. leb 16 c.process) l k no_named (omega (arith, size)) q)
      (sym (copy_process 16 (omega arith) l) ∙ ap (λ (x : Copied). leb 16 x.process) (sym e) ∙ lt-leb 16 t.process low)))
      (λ q. rw (same_element k lt) (leb-false 16 (get_or l k no_named).process q))

  pub whole_same : (r : List ℕ) → length r ≡ 34 → ((k : ℕ) → k < t.length → named_at r k ≡ get_or t.named k no_named) → SameLine l (named_in (take (2 * t.length) r))
  unfolding SameLine
  whole_same r long at s sound-s line =
      let same : named_in (take (2 * t.length) r) ≡ l = rw size (exact l r long (omega (arith, size)) (λ k lt. at k (omega (arith, size)) ∙ same_element k (omega (arith, size)))) in
      ap (λ (m : List Named). earliest_outcome s m line) same
