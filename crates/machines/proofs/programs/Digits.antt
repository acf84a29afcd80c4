-- The number that a word is, digit by digit, and what stands for it.
-- Assumes nothing.
use Rattle.std.specs.Prelude.{◌≡◌, ◌+◌, ◌-◌, ◌*◌, ◌≤◌, ◌<◌}
use Rattle.laws.specs.Basics.{refl, sym, ◌∙◌, ap, List, Option, None, Some, ℕ, arith, length, get_or, eq-eqb, ne_eqb, lt-ltb, le-ltb}
use Rattle.laws.specs.{Loops.iter, Rows.by_lt}
use Rattle.machines.specs.programs.Numbers.{too_great, no_number, grown, decimal_in, stands_for, number_in, at_most}

-- What stands for a number.
pub stands_great : (v : ℕ) → 4294967295 < v → stands_for (Some v) ≡ too_great
unfolding stands_for
stands_great v h = rw (lt-ltb 4294967295 v h)

pub stands_itself : (v : ℕ) → v ≤ 4294967295 → stands_for (Some v) ≡ v
unfolding stands_for
stands_itself v h = rw (le-ltb 4294967295 v h)

-- A byte that is no digit, below the digits and above them.
module _ (byte : ℕ) where
  below : byte < 48 → (word : Option ℕ) → grown word byte ≡ None
  unfolding grown
  below h None = refl
  below h (Some v) = rw (lt-ltb byte 48 h)

  above : 48 ≤ byte → 57 < byte → (word : Option ℕ) → grown word byte ≡ None
  unfolding grown
  above h k None = refl
  above h k (Some v) = rw (le-ltb byte 48 h, lt-ltb 57 byte k)

  digit : 48 ≤ byte → byte ≤ 57 → (v : ℕ) → grown (Some v) byte ≡ Some (v * 10 + (byte - 48))
  unfolding grown
  digit h k v = rw (le-ltb byte 48 h, le-ltb 57 byte k)

  stands_none : (word : Option ℕ) → grown word byte ≡ None → no_number ≡ stands_for (grown word byte)
  unfolding stands_for
  stands_none word e = rw e

  pub below_digits : byte < 48 → (word : Option ℕ) → no_number ≡ stands_for (grown word byte)
  below_digits h word = stands_none word (below h word)

  pub above_digits : 48 ≤ byte → 57 < byte → (word : Option ℕ) → no_number ≡ stands_for (grown word byte)
  above_digits h k word = stands_none word (above h k word)

  module _ (h : 48 ≤ byte) (k : byte ≤ 57) where
    -- What is no number, or too great, stays so.
    pub kept_as_it_is : (value : ℕ) → 4294967295 < value → (word : Option ℕ) → value ≡ stands_for word → value ≡ stands_for (grown word byte)
    unfolding grown stands_for
    kept_as_it_is value m None e = e
    kept_as_it_is value m (Some v) e = by_lt 4294967295 v
        (λ great. e ∙ stands_great v great ∙ sym (ap stands_for (digit h k v) ∙ stands_great (v * 10 + (byte - 48)) (omega (arith, great))))
        (λ small. absurd (omega (arith, m, e ∙ stands_itself v small, small)))

    -- A number that 32 bits hold, and one digit more.
    one_more : (value : ℕ) → value ≤ 4294967295 → (word : Option ℕ) → value ≡ stands_for word → grown word byte ≡ Some (value * 10 + (byte - 48))
    unfolding stands_for
    one_more value m None e = absurd (omega (arith, m, e))
    one_more value m (Some v) e = by_lt 4294967295 v
        (λ great. absurd (omega (arith, m, e ∙ stands_great v great)))
        (λ small. digit h k v ∙ ap (λ (w : ℕ). Some (w * 10 + (byte - 48))) (sym (e ∙ stands_itself v small)))

    pub now_too_great : (value : ℕ) → value ≤ 4294967295 → 4294967295 < value * 10 + (byte - 48) → (word : Option ℕ) → value ≡ stands_for word → too_great ≡ stands_for (grown word byte)
    now_too_great value m great word e = sym (ap stands_for (one_more value m word e) ∙ stands_great (value * 10 + (byte - 48)) great)

    pub appended_is : (value : ℕ) → value ≤ 4294967295 → value * 10 + (byte - 48) ≤ 4294967295 → (word : Option ℕ) → value ≡ stands_for word
        → value * 10 + (byte - 48) ≡ stands_for (grown word byte)
    appended_is value m small word e = sym (ap stands_for (one_more value m word e) ∙ stands_itself (value * 10 + (byte - 48)) small)

pub no_word : (word : List ℕ) → length word ≡ 0 → no_number ≡ number_in word
unfolding number_in decimal_in stands_for
no_word word e = rw (eq-eqb (length word) 0 e)

-- Before the first digit.
pub first_value : (f : ℕ → Option ℕ → Option ℕ) → 0 ≡ stands_for (iter 0 f (Some 0))
unfolding stands_for iter
first_value f = refl

pub number_is : (word : List ℕ) (value : ℕ) → (length word ≡ 0 → ⊥) → value ≡ stands_for (iter (length word) (λ i v. grown v (get_or word i 0)) (Some 0)) → value ≡ number_in word
unfolding number_in decimal_in
number_is word value some_bytes is = rw (ne_eqb (length word) 0 some_bytes) is

-- A word that is a number: a number of 32 bits is asked for of it as of what stands for it.
pub at_most_stands : (word : List ℕ) (v : ℕ) → decimal_in word ≡ Some v → at_most (number_in word) ≡ at_most v
unfolding number_in at_most
at_most_stands word v e = by_lt 4294967295 v
    (λ great. rw (e, stands_great v great, lt-ltb 4294967295 v great))
    (λ small. rw (e, stands_itself v small))
