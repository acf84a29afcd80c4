-- Searches below a bound with two tests or two bounds: tests that agree below give the same answer, and numbers that fail do not count.
use Rattle.std.specs.Prelude.{◌≡◌, refl, Bool, false, ℕ, zero, suc, ◌≤◌, ◌<◌}
use Rattle.std.proofs.Common.{arith}
use Rattle.laws.specs.Choice.{by_bool, by_eq}
use Rattle.laws.specs.Search.{any_below, all_below, any_in, any_out}
use Rattle.laws.specs.Truth.{never_both}

pub any_same : (n : ℕ) (t u : ℕ → Bool) → ((k : ℕ) → k < n → t k ≡ u k) → any_below n t ≡ any_below n u
unfolding any_below
any_same zero t u h = refl
any_same (suc n) t u h = rw (h n (omega arith), any_same n t u (λ k lt. h k (omega arith)))

pub all_same : (n : ℕ) (t u : ℕ → Bool) → ((k : ℕ) → k < n → t k ≡ u k) → all_below n t ≡ all_below n u
unfolding all_below
all_same zero t u h = refl
all_same (suc n) t u h = rw (h n (omega arith), all_same n t u (λ k lt. h k (omega arith)))

-- Numbers from n on that fail do not count.
pub any_wider : (n m : ℕ) (t : ℕ → Bool) → n ≤ m → ((k : ℕ) → n ≤ k → k < m → t k ≡ false) → any_below m t ≡ any_below n t
unfolding any_below
any_wider n zero t le h = rw (zero_of n le)
  where
    zero_of : (n : ℕ) → n ≤ 0 → n ≡ 0
    zero_of n h = omega arith
any_wider n (suc m) t le h = by_eq n (suc m)
    (λ e. rw e)
    (λ ne. rw (h m (omega arith) (omega arith)) (any_wider n m t (omega arith) (λ k a b. h k a (omega arith))))

-- Where at most one number can pass, some number passes exactly if that one does.
pub any_only : (n : ℕ) (t : ℕ → Bool) (p : ℕ) → p < n → ((q : ℕ) → q < n → (q ≡ p → ⊥) → t q ≡ false) → any_below n t ≡ t p
any_only n t p h none = by_bool (t p)
    (λ e. rw e (any_in n t p h e))
    (λ e. rw e (by_bool (any_below n t)
    (λ d. let w = any_out n t d in by_eq w.0 p (λ c. never_both (t p) (rw c at w.2) e) (λ ne. never_both (t w.0) w.2 (none w.0 w.1 ne)))
    (λ d. d)))
