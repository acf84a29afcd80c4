-- The values at the numbers below a bound that pass a test: every one of them passes another test, and the numbers themselves ascend.
-- Assumes nothing.
use Rattle.std.specs.Prelude.{◌≡◌, ◌∷◌, ◌++◌, ◌≤◌, ◌<◌}
use Rattle.laws.specs.Basics.{refl, Bool, true, List, [], ℕ, zero, suc, arith, ltb, leb, lt-ltb, ltb-true, le-leb, by_bool}
use Rattle.laws.specs.{Truth.and_left, Truth.and_right, Tests.every, Elements.every_nil, Elements.every_single, Elements.every_append}
use Rattle.model.specs.Sound.{ascending}
use Rattle.model.proofs.{simulation.View.passing, simulation.Passing.passing_yes, simulation.Passing.passing_no}

-- Every one passes another test, if it holds at each number that passes the first.
pub passing_every : {A : Type 0} (u : A → Bool) (k : ℕ) (t : ℕ → Bool) (f : ℕ → A) → ((j : ℕ) → j < k → t j ≡ true → u (f j) ≡ true) → every u (passing k t f) ≡ true
unfolding passing
passing_every u zero t f h = every_nil u
passing_every u (suc k) t f h = every_append u (passing k t f) _ (passing_every u k t f (λ j lt. h j (omega arith)))
    (by_bool (t k)
    (λ e. rw e (every_single u (f k) (h k (omega arith) e)))
    (λ e. rw e (every_nil u)))

-- Numbers that ascend, and one more above them all.
ascending_snoc : (low : ℕ) (l : List ℕ) (x : ℕ) → ascending low l ≡ true → every (λ y. ltb y x) l ≡ true → low ≤ x → ascending low (l ++ (x ∷ [])) ≡ true
unfolding ascending every
ascending_snoc low [] x a b c = rw (le-leb low x c)
ascending_snoc low (y ∷ l) x a b c = rw (and_left (leb low y) (ascending (suc y) l) a)
    (ascending_snoc (suc y) l x
    (and_right (leb low y) (ascending (suc y) l) a)
    (and_right (ltb y x) (every (λ z. ltb z x) l) b)
    (ltb-true y x (and_left (ltb y x) (every (λ z. ltb z x) l) b)))

-- The numbers that pass ascend.
pub passing_ascends : (low k : ℕ) (t : ℕ → Bool) → ((j : ℕ) → j < k → t j ≡ true → low ≤ j) → ascending low (passing k t (λ j. j)) ≡ true
unfolding passing ascending
passing_ascends low zero t h = refl
passing_ascends low (suc k) t h = by_bool (t k)
    (λ e. rw (passing_yes k t (λ j. j) e) (ascending_snoc low (passing k t (λ j. j)) k
    (passing_ascends low k t (λ j lt. h j (omega arith)))
    (passing_every (λ y. ltb y k) k t (λ j. j) (λ j lt d. lt-ltb j k lt))
    (h k (omega arith) e)))
    (λ e. rw (passing_no k t (λ j. j) e) (passing_ascends low k t (λ j lt. h j (omega arith))))
