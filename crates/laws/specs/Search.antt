-- Tests over all numbers below a bound: some passes, all pass, and the latest that passes.
use Rattle.std.specs.Prelude.{◌≡◌, refl, Bool, true, false, ◌&&◌, ◌||◌, ℕ, zero, suc, ◌≤◌, ◌<◌, Option, None, Some}
use Rattle.std.proofs.Common.{sym, ◌∙◌, ap, not-suc-le-zero, arith}
use Rattle.std.proofs.lemmas.Bool.{false≢true}
use Rattle.laws.specs.Choice.{pick, by_bool, by_eq}
use Rattle.laws.specs.Options.{some_same, none≢some}
use Rattle.laws.specs.Truth.{never_both, and_left, and_right}

-- Some number below the bound passes the test.
unfoldable pub any_below : ℕ → (ℕ → Bool) → Bool
any_below zero t = false
any_below (suc n) t = t n || any_below n t

-- Every number below the bound passes the test.
unfoldable pub all_below : ℕ → (ℕ → Bool) → Bool
all_below zero t = true
all_below (suc n) t = t n && all_below n t

-- The greatest number below the bound that passes the test.
unfoldable pub latest : ℕ → (ℕ → Bool) → Option ℕ
latest zero t = None
latest (suc n) t = pick (t n) (Some n) (latest n t)

-- The one that passes.
pub any_out : (n : ℕ) (t : ℕ → Bool) → any_below n t ≡ true → (k : ℕ) × (k < n) × (t k ≡ true)
unfolding any_below
any_out zero t e = absurd (false≢true e)
any_out (suc n) t e = by_bool (t n)
    (λ q. (n, omega arith, q))
    (λ q. let w = any_out n t (rw q at e) in (w.0, omega (arith, w.1), w.2))

-- Where one passes, some passes.
pub any_in : (n : ℕ) (t : ℕ → Bool) (k : ℕ) → k < n → t k ≡ true → any_below n t ≡ true
unfolding any_below
any_in zero t k h e = absurd (not-suc-le-zero h)
any_in (suc n) t k h e = by_bool (t n)
    (λ q. rw q)
    (λ q. rw q (any_in n t k (by_eq k n (λ c. never_both (t n) (rw c at e) q) (λ c. omega arith)) e))

-- Where none passes, each one fails.
pub any_none : (n : ℕ) (t : ℕ → Bool) → any_below n t ≡ false → (k : ℕ) → k < n → t k ≡ false
any_none n t e k h = by_bool (t k) (λ q. never_both (any_below n t) (any_in n t k h q) e) (λ q. q)

-- Where all pass, each one passes.
pub all_out : (n : ℕ) (t : ℕ → Bool) → all_below n t ≡ true → (k : ℕ) → k < n → t k ≡ true
unfolding all_below
all_out zero t e k h = absurd (not-suc-le-zero h)
all_out (suc n) t e k h = by_eq k n
    (λ c. rw c (and_left (t n) (all_below n t) e))
    (λ c. all_out n t (and_right (t n) (all_below n t) e) k (omega arith))

-- Where each one passes, all pass.
pub all_in : (n : ℕ) (t : ℕ → Bool) → ((k : ℕ) → k < n → t k ≡ true) → all_below n t ≡ true
unfolding all_below
all_in zero t h = refl
all_in (suc n) t h = rw (h n (omega arith)) (all_in n t (λ k lt. h k (omega arith)))

-- Where not all pass, the one that fails.
pub all_fails : (n : ℕ) (t : ℕ → Bool) → all_below n t ≡ false → (k : ℕ) × (k < n) × (t k ≡ false)
unfolding all_below
all_fails zero t e = absurd (false≢true (sym e))
all_fails (suc n) t e = by_bool (t n)
    (λ q. let w = all_fails n t (rw q at e) in (w.0, omega (arith, w.1), w.2))
    (λ q. (n, omega arith, q))

-- The latest that passes is one above which none does.
pub latest_is : (n : ℕ) (t : ℕ → Bool) (k : ℕ) → k < n → t k ≡ true → ((j : ℕ) → k < j → j < n → t j ≡ false) → latest n t ≡ Some k
unfolding latest
latest_is zero t k h e above = absurd (not-suc-le-zero h)
latest_is (suc n) t k h e above = by_eq k n
    (λ c. rw (rw c at e) (ap Some (sym c)))
    (λ c. rw (above n (omega arith) (omega arith)) (latest_is n t k (omega arith) e (λ j a b. above j a (omega arith))))

-- What the latest that passes is: below the bound, it passes, and none above it does.
pub latest_out : (n : ℕ) (t : ℕ → Bool) (k : ℕ) → latest n t ≡ Some k → (k < n) × (t k ≡ true) × ((j : ℕ) → k < j → j < n → t j ≡ false)
unfolding latest
latest_out zero t k e = absurd (none≢some e)
latest_out (suc n) t k e = by_bool (t n)
    (λ q. let c : n ≡ k = some_same (rw q at e) in (omega arith, rw (← c) q, λ j a b. absurd (omega arith)))
    (λ q. let w = latest_out n t k (rw q at e) in (omega (arith, w.0), w.1, λ j a b. by_eq j n (λ c. rw c q) (λ c. w.2 j a (omega arith))))

-- A number that fails does not count.
pub latest_skip : (n : ℕ) (t : ℕ → Bool) → t n ≡ false → latest (suc n) t ≡ latest n t
unfolding latest
latest_skip n t q = rw q

-- Where one passes, there is a latest one.
pub latest_of : (n : ℕ) (t : ℕ → Bool) (k : ℕ) → k < n → t k ≡ true → (m : ℕ) × (latest n t ≡ Some m) × (k ≤ m)
unfolding latest
latest_of zero t k h e = absurd (not-suc-le-zero h)
latest_of (suc n) t k h e = by_bool (t n)
    (λ q. (n, rw q, omega arith))
    (λ q. let w = latest_of n t k (by_eq k n (λ c. never_both (t n) (rw c at e) q) (λ c. omega arith)) e in (w.0, latest_skip n t q ∙ w.1, w.2))

-- Where none passes, there is no latest one.
pub latest_none : (n : ℕ) (t : ℕ → Bool) → ((k : ℕ) → k < n → t k ≡ false) → latest n t ≡ None
unfolding latest
latest_none zero t h = refl
latest_none (suc n) t h = rw (h n (omega arith)) (latest_none n t (λ k lt. h k (omega arith)))
