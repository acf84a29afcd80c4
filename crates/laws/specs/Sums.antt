-- The sum of a function of the numbers below a bound: of equal functions, of two together, of one that is 0 but at one number, of counts times weights.
use Rattle.std.specs.Prelude.{◌≡◌, refl, List, ℕ, zero, suc, ◌+◌, ◌*◌, ◌≤◌, ◌<◌, length}
use Rattle.std.proofs.Common.{◌∙◌, ap, arith, length-append}
use Rattle.laws.specs.Choice.{by_eq}
use Rattle.laws.specs.Lists.{gather}

unfoldable pub sum_below : ℕ → (ℕ → ℕ) → ℕ
sum_below zero f = 0
sum_below (suc n) f = sum_below n f + f n

-- Functions that agree below the bound.
pub sum_same : (n : ℕ) (f g : ℕ → ℕ) → ((k : ℕ) → k < n → f k ≡ g k) → sum_below n f ≡ sum_below n g
unfolding sum_below
sum_same zero f g h = refl
sum_same (suc n) f g h = rw (h n (omega arith), sum_same n f g (λ k lt. h k (omega arith)))

-- Where all are 0, so is the sum.
pub sum_none : (n : ℕ) (f : ℕ → ℕ) → ((k : ℕ) → k < n → f k ≡ 0) → sum_below n f ≡ 0
unfolding sum_below
sum_none zero f h = refl
sum_none (suc n) f h = omega (arith, h n (omega arith), sum_none n f (λ k lt. h k (omega arith)))

-- A sum that is 0 but at one number.
pub sum_only : (n : ℕ) (f : ℕ → ℕ) (i : ℕ) → i < n → ((k : ℕ) → k < n → (k ≡ i → ⊥) → f k ≡ 0) → sum_below n f ≡ f i
unfolding sum_below
sum_only zero f i lt h = absurd (omega arith)
sum_only (suc n) f i lt h = by_eq i n
    (λ e. rw e (omega (arith, sum_none n f (λ k less. h k (omega arith) (omega arith)))))
    (λ ne. omega (arith, h n (omega arith) (omega arith), sum_only n f i (omega arith) (λ k less. h k (omega arith))))

-- Two sums that agree with two others number by number.
pub sum_both : (n : ℕ) (a b c d : ℕ → ℕ) → ((k : ℕ) → k < n → a k + b k ≡ c k + d k) → sum_below n a + sum_below n b ≡ sum_below n c + sum_below n d
unfolding sum_below
sum_both zero a b c d h = refl
sum_both (suc n) a b c d h = omega (arith, h n (omega arith), sum_both n a b c d (λ k lt. h k (omega arith)))

-- No summand above a bound.
pub sum_le : (n m : ℕ) (f : ℕ → ℕ) → ((k : ℕ) → k < n → f k ≤ m) → sum_below n f ≤ n * m
unfolding sum_below
sum_le zero m f h = omega arith
sum_le (suc n) m f h = omega (arith, h n (omega arith), sum_le n m f (λ k lt. h k (omega arith)))

-- The first summand apart.
pub sum_front : (n : ℕ) (f : ℕ → ℕ) → sum_below (suc n) f ≡ f 0 + sum_below n (λ k. f (suc k))
unfolding sum_below
sum_front zero f = omega arith
sum_front (suc n) f = omega (arith, sum_front n f)

-- The length of lists put together.
pub length_gather : {A : Type 0} (n : ℕ) (f : ℕ → List A) → length (gather n f) ≡ sum_below n (λ k. length (f k))
unfolding sum_below gather
length_gather zero f = refl
length_gather (suc n) f = length-append (gather n f) (f n) ∙ ap (λ (x : ℕ). x + length (f n)) (length_gather n f)
