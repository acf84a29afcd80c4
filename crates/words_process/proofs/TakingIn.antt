-- Taking a carried vector in, entry by entry, where the vector stands in the words.
-- Assumes nothing.
use Rattle.std.specs.Prelude.{◌≡◌, ◌∷◌, ◌+◌, ◌^◌, ◌<◌}
use Rattle.laws.specs.Basics.{refl, sym, ◌∙◌, ap, Bool, List, [], ℕ, zero, suc, arith, pick, by_bool}
use native.Mathlib.Nat.{pow-suc}
use native.Mathlib.Numerals.{add-one}
use lib.Bits.{bit_or, or_zero_r}
use Rattle.laws.specs.{Bits.bits_of, Bits.bits_zero, Bits.bits_more, Tables.get_d_table}
use Rattle.model.specs.declared.Interval.{Interval}
use Rattle.model.specs.{Words.entry, Words.below, Steps.taken_entry, Steps.taken_vector, Steps.risen}
use Rattle.words.specs.{Layout.word, Layout.interval_of, Layout.vector_in, Puts.put_from, Puts.puts, Puts.one, Puts.vector_put}
use Rattle.words.proofs.{Reading.untouched, Reading.put_step, Same.vector_word}
use Rattle.words_process.specs.TakingIn.{taken_word, risen_bit}
use Rattle.words_process.proofs.Sets.{or_higher}

-- The bit comes to the set.
module _ (w : List ℕ) (at : ℕ) (carried : List Interval) (f rose : ℕ) (less : rose < 2 ^ f) where
  pub or_risen : bit_or rose (risen_bit w at carried f) ≡ rose + risen_bit w at carried f
  unfolding risen_bit
  or_risen = by_bool (below (interval_of (word w (at + f))) (entry carried f))
      (λ e. rw e (or_higher rose f less))
      (λ e. rw e (or_zero_r rose ∙ omega arith))

  pub risen_less : rose + risen_bit w at carried f < 2 ^ (f + 1)
  unfolding risen_bit
  risen_less = by_bool (below (interval_of (word w (at + f))) (entry carried f))
      (λ e. rw (e, add-one, pow-suc) (omega (arith, less)))
      (λ e. rw (e, add-one, pow-suc) (omega (arith, less)))

-- After the steps below f the words of the entries from f on are as they were, so that the step for f makes of it what the old vector says.
module _ (w : List ℕ) (at : ℕ) (carried : List Interval) where
  abbrev own : List Interval
  own = vector_in w at

  abbrev pub rises : ℕ → Bool
  rises f = below (entry own f) (entry carried f)

  abbrev pub word_then : ℕ → ℕ
  word_then f = (taken_entry own carried f).0

  module _ (f : ℕ) (lt : f < 16) (v : List ℕ) (e : v ≡ put_from w at f word_then) where
    old : interval_of (word v (at + f)) ≡ entry own f
    old = ap (λ (u : List ℕ). interval_of (word u (at + f))) e
        ∙ ap (λ (x : ℕ). interval_of x) (untouched w (record { at = at; size = f; fill = word_then } ∷ []) (at + f) (λ a b. omega arith, tt))
        ∙ sym (vector_word w at f lt)

    taken_is : taken_word v at carried f ≡ word_then f
    unfolding taken_word taken_entry
    taken_is = ap (λ (x : Interval). (pick (below x (entry carried f)) (entry carried f) x).0) old

    pub step_words : puts v (one (at + f) (taken_word v at carried f) ∷ []) ≡ put_from w at (f + 1) word_then
    unfolding put_from
    step_words = ap (λ (x : ℕ). put_from v (at + f) 1 (λ k. x)) taken_is ∙ one_put
      where
        one_put : put_from v (at + f) 1 (λ k. word_then f) ≡ put_from w at (f + 1) word_then
        one_put = let z : at + f + 0 ≡ at + f = omega arith in rw z (put_step w at word_then f v (word_then f) e refl)

    bit_is : risen_bit v at carried f ≡ pick (rises f) (2 ^ f) 0
    unfolding risen_bit
    bit_is = ap (λ (x : Interval). pick (below x (entry carried f)) (2 ^ f) 0) old

    pub step_rose : (rose : ℕ) → rose ≡ bits_of f rises → rose + risen_bit v at carried f ≡ bits_of (f + 1) rises
    step_rose rose so_far = bits_more rises f rose (risen_bit v at carried f) so_far bit_is

  pub rises_none : 0 ≡ bits_of 0 rises
  rises_none = bits_zero rises

  pub all_rose : bits_of 16 rises ≡ risen own carried
  unfolding risen
  all_rose = refl

  -- The words of the vector that has taken the carried one in.
  put_same : (n : ℕ) (f g : ℕ → ℕ) → ((k : ℕ) → k < n → f k ≡ g k) → put_from w at n f ≡ put_from w at n g
  unfolding put_from
  put_same zero f g same = refl
  put_same (suc n) f g same = rw (put_same n f g (λ k lt. same k (omega arith)), same n (omega arith))

  pub all_taken : put_from w at 16 word_then ≡ puts w (vector_put at (taken_vector own carried) ∷ [])
  unfolding taken_vector
  all_taken = put_same 16 word_then (λ f. (entry (taken_vector own carried) f).0)
      (λ f lt. ap (λ (x : Interval). x.0) (sym (get_d_table 16 (taken_entry own carried) f (record { 0 = 0 }) lt)))
