-- What is held of a half stands for the whole of it: the program prints for it what it prints for the whole.
-- Assumes nothing.
use Rattle.std.specs.Prelude.{◌≡◌, ◌∷◌, ◌+◌, ◌-◌, ◌/◌, ◌%◌, ◌≤◌, ◌<◌}
use Rattle.laws.specs.Basics.{refl, sym, ◌∙◌, ap, false, List, [], Some, ℕ, zero, suc, arith, eqb, ltb, leb, length, take, replicate, length-replicate, length-take-le, eq-eqb, ne_eqb, lt-ltb, le-ltb, le-leb, lt-leb, leb-true, leb-false, by_bool, by_eq}
use lib.Seq.{take_all}
use Rattle.model.specs.declared.Refusal.{Refusal}
use Rattle.theory_merges.specs.Merge.{count_of, after_first_byte, bad_count, left_over_of, too_many, merge_refusal}
use Rattle.model.specs.laws.Refusals.{by_refusal}
use Rattle.theory_merges.proofs.Replaying.{fine}
use Rattle.library_halves.proofs.Rules.{after_first_is}
use Rattle.machine_merge.specs.{Buffered.buffered_size, Buffered.buffered_of, Printed.refusing, Printed.printed}

-- How many bytes are held: all, or 16,389 to 16,392, as many after whole records as of the whole.
pub record Size (total : ℕ) : Type 0 where
  pub most : buffered_size total ≤ 16392
  pub less : buffered_size total ≤ total
  pub over : (buffered_size total - 1) % 4 ≡ (total - 1) % 4
  pub short : total ≤ 16392 → buffered_size total ≡ total
  pub long : 16392 < total → 16389 ≤ buffered_size total

pub size_short : (total : ℕ) → total ≤ 16392 → buffered_size total ≡ total
unfolding buffered_size
size_short total h = rw (le-leb total 16392 h)

pub size_long : (total : ℕ) → 16392 < total → buffered_size total ≡ 16389 + (total - 1) % 4
unfolding buffered_size
size_long total h = rw (lt-leb total 16392 h)

pub sized : (total : ℕ) → Size total
sized total = by_bool (leb total 16392)
    (λ e.
    let h = leb-true total 16392 e in
    let s = size_short total h in
    record { most = omega arith; less = omega arith; over = rw s; short = λ z. s; long = λ z. absurd (omega arith) })
    (λ e.
    let h = leb-false total 16392 e in
    let s = size_long total h in
    record { most = omega arith; less = omega arith; over = omega arith; short = λ z. absurd (omega arith); long = λ z. omega arith })

pub buffered_length : (file : List ℕ) → length (buffered_of file) ≡ buffered_size (length file)
unfolding buffered_of
buffered_length file = length-take-le (buffered_size (length file)) file (sized (length file)).less

pub buffered_whole : (file : List ℕ) → length file ≤ 16392 → buffered_of file ≡ file
unfolding buffered_of
buffered_whole file h = take_all (buffered_size (length file)) file (omega (arith, (sized (length file)).short h))

-- The first byte stands.
front_count : (k : ℕ) (l : List ℕ) → (1 ≤ length l → 1 ≤ k) → count_of (take k l) ≡ count_of l
unfolding count_of
front_count zero [] h = refl
front_count (suc k) [] h = refl
front_count zero (n ∷ l) h = absurd (omega (arith, h (omega arith)))
front_count (suc k) (n ∷ l) h = refl

front_bad : (k : ℕ) (l : List ℕ) → (1 ≤ length l → 1 ≤ k) → bad_count (take k l) ≡ bad_count l
unfolding bad_count
front_bad zero [] h = refl
front_bad (suc k) [] h = refl
front_bad zero (n ∷ l) h = absurd (omega (arith, h (omega arith)))
front_bad (suc k) (n ∷ l) h = refl

module _ (file : List ℕ) where
  abbrev L : ℕ
  L = length file

  not_none : 1 ≤ length file → 1 ≤ buffered_size (length file)
  not_none h = by_bool (leb (length file) 16392)
      (λ e. omega (arith, (sized L).short (leb-true L 16392 e)))
      (λ e. omega (arith, (sized L).long (leb-false L 16392 e)))

  count_same : count_of (buffered_of file) ≡ count_of file
  unfolding buffered_of
  count_same = front_count (buffered_size L) file not_none

  bad_same : bad_count (buffered_of file) ≡ bad_count file
  unfolding buffered_of
  bad_same = front_bad (buffered_size L) file not_none

  none_same : eqb (length (buffered_of file)) 0 ≡ eqb (length file) 0
  none_same = by_eq L 0
      (λ e. rw (eq-eqb L 0 e) (eq-eqb (length (buffered_of file)) 0 (omega (arith, buffered_length file, (sized L).less))))
      (λ ne. rw (ne_eqb L 0 ne) (ne_eqb (length (buffered_of file)) 0 (λ z. omega (arith, z, buffered_length file, not_none (omega (arith, ne))))))

  after_first : length (after_first_byte (buffered_of file)) ≡ buffered_size L - 1
  after_first = after_first_is (buffered_of file) ∙ ap (λ (k : ℕ). k - 1) (buffered_length file)

  left_same : left_over_of (buffered_of file) ≡ left_over_of file
  left_same = rw (after_first, after_first_is file, (sized L).over)

  many_same : too_many (buffered_of file) ≡ too_many file
  many_same = by_bool (leb L 16392)
      (λ e. ap too_many (buffered_whole file (leb-true L 16392 e)))
      (λ e. rw (
        lt-ltb 4096 (length (after_first_byte (buffered_of file)) / 4) (omega (arith, after_first, (sized L).long (leb-false L 16392 e))),
        lt-ltb 4096 (length (after_first_byte file) / 4) (omega (arith, after_first_is file, leb-false L 16392 e)),
      ))

-- A buffer as long as it must be.
pub long_enough : (k : ℕ) → ltb (length (replicate {A = ℕ} k 0)) k ≡ false
long_enough k = le-ltb (length (replicate {A = ℕ} k 0)) k (omega (arith, length-replicate {A = ℕ} k 0))

-- A refusal is all that is printed.
pub refused_text_lem : (a b : List ℕ) (F : ℕ) (x : Refusal) → merge_refusal a b F (replicate (length a + length b) 0) ≡ Some x → printed a b F ≡ refusing x
unfolding printed
refused_text_lem a b F x e = rw e

module _ (a b : List ℕ) (F : ℕ) where
  refusal_same : merge_refusal (buffered_of a) (buffered_of b) F (replicate (length (buffered_of a) + length (buffered_of b)) 0) ≡ merge_refusal a b F (replicate (length a + length b) 0)
  unfolding merge_refusal
  refusal_same =
      rw (
        bad_same a,
        bad_same b,
        long_enough (length (buffered_of a) + length (buffered_of b)),
        long_enough (length a + length b),
        none_same a,
        none_same b,
        count_same a,
        count_same b,
        left_same a,
        left_same b,
        many_same a,
        many_same b,
      )

  -- What the program prints.
  pub printed_same : printed (buffered_of a) (buffered_of b) F ≡ printed a b F
  printed_same = by_refusal (merge_refusal a b F (replicate (length a + length b) 0))
      (λ e. let f = fine a b F (replicate (length a + length b) 0) e in
      rw (buffered_whole a (omega (arith, f.few_first, after_first_is a)), buffered_whole b (omega (arith, f.few_second, after_first_is b))))
      (λ x e. refused_text_lem (buffered_of a) (buffered_of b) F x (refusal_same ∙ e) ∙ sym (refused_text_lem a b F x e))
