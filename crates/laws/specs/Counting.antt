-- How many numbers below a bound pass a test: at most and at least, of two tests together, of a test that one number alone passes, of n such tests.
use Rattle.std.specs.Prelude.{◌≡◌, refl, Bool, true, false, ◌&&◌, ◌||◌, not, ℕ, zero, suc, ◌+◌, ◌≤◌, ◌<◌}
use Rattle.std.proofs.Common.{arith}
use Rattle.laws.specs.Choice.{by_bool, by_eq}
use Rattle.laws.specs.Search.{any_below}
use Rattle.laws.specs.Tests.{count_below}

-- No more than the bound pass.
pub count_le : (k : ℕ) (t : ℕ → Bool) → count_below k t ≤ k
unfolding count_below
count_le zero t = omega arith
count_le (suc k) t = by_bool (t k)
    (λ e. rw e (omega (arith, count_le k t)))
    (λ e. rw e (omega (arith, count_le k t)))

-- Two tests that agree below a bound count the same.
pub count_same : (n : ℕ) (t u : ℕ → Bool) → ((k : ℕ) → k < n → t k ≡ u k) → count_below n t ≡ count_below n u
unfolding count_below
count_same zero t u h = refl
count_same (suc n) t u h = rw (h n (omega arith), count_same n t u (λ k lt. h k (omega arith)))

-- Where none passes, the count is 0.
pub count_none : (k : ℕ) (t : ℕ → Bool) → ((j : ℕ) → j < k → t j ≡ false) → count_below k t ≡ 0
unfolding count_below
count_none zero t h = refl
count_none (suc k) t h = rw (h k (omega arith)) (omega (arith, count_none k t (λ j lt. h j (omega arith))))

-- Where one passes, the count is at least 1.
pub count_some : (k : ℕ) (t : ℕ → Bool) (j : ℕ) → j < k → t j ≡ true → 1 ≤ count_below k t
unfolding count_below
count_some zero t j h e = absurd (omega arith)
count_some (suc k) t j h e = by_eq j k
    (λ c. rw (rw c at e) (omega arith))
    (λ c. omega (arith, count_some k t j (omega arith) e))

-- Where all that pass one test pass another, the other counts at least as many.
pub count_mono : (k : ℕ) (t u : ℕ → Bool) → ((j : ℕ) → j < k → t j ≡ true → u j ≡ true) → count_below k t ≤ count_below k u
unfolding count_below
count_mono zero t u h = omega arith
count_mono (suc k) t u h =
    let below = count_mono k t u (λ j lt. h j (omega arith)) in
    by_bool (t k)
    (λ e. rw (e, h k (omega arith) e) (omega arith))
    (λ e. rw e (omega arith))

-- Those that pass one of two tests are at most those that pass the first and those that pass the second.
pub count_or : (k : ℕ) (t u : ℕ → Bool) → count_below k (λ j. t j || u j) ≤ count_below k t + count_below k u
unfolding count_below
count_or zero t u = omega arith
count_or (suc k) t u = by_bool (t k)
    (λ e. rw e (omega (arith, count_or k t u)))
    (λ e. rw e (omega (arith, count_or k t u)))

-- A test that no two numbers pass counts at most 1.
pub count_one : (k : ℕ) (t : ℕ → Bool) → ((i j : ℕ) → t i ≡ true → t j ≡ true → i ≡ j) → count_below k t ≤ 1
unfolding count_below
count_one zero t h = omega arith
count_one (suc k) t h = by_bool (t k)
    (λ e. rw e (omega (arith, count_none k t (λ j lt. by_bool (t j) (λ d. absurd (omega (arith, h j k d e))) (λ d. d)))))
    (λ e. rw e (omega (arith, count_one k t h)))

-- Of n tests, each of which no two numbers pass, at most n numbers pass some.
pub count_any : (n k : ℕ) (t : ℕ → ℕ → Bool) → ((f i j : ℕ) → t f i ≡ true → t f j ≡ true → i ≡ j) → count_below k (λ j. any_below n (λ f. t f j)) ≤ n
unfolding any_below
count_any zero k t h = omega (arith, count_none k (λ j. false) (λ j lt. refl))
count_any (suc n) k t h = omega (arith, count_or k (t n) (λ j. any_below n (λ f. t f j)), count_one k (t n) (h n), count_any n k t h)

-- Where all that pass one test pass another: those that pass the other are those that pass both and those that pass it alone.
pub count_split : (k : ℕ) (t u : ℕ → Bool) → ((j : ℕ) → j < k → u j ≡ true → t j ≡ true) → count_below k t ≡ count_below k u + count_below k (λ j. t j && not (u j))
unfolding count_below
count_split zero t u h = refl
count_split (suc k) t u h =
    let below = count_split k t u (λ j lt. h j (omega arith)) in
    by_bool (u k)
    (λ e. rw (e, h k (omega arith) e) (omega arith))
    (λ e. by_bool (t k) (λ d. rw (e, d) (omega arith)) (λ d. rw (e, d) (omega arith)))

-- Numbers from n on that fail do not count.
pub count_wider : (n m : ℕ) (t : ℕ → Bool) → n ≤ m → ((j : ℕ) → n ≤ j → j < m → t j ≡ false) → count_below m t ≡ count_below n t
unfolding count_below
count_wider n zero t le h = rw (zero_of n le)
  where
    zero_of : (n : ℕ) → n ≤ 0 → n ≡ 0
    zero_of n h = omega arith
count_wider n (suc m) t le h = by_eq n (suc m)
    (λ e. rw e)
    (λ ne. rw (h m (omega arith) (omega arith)) (omega (arith, count_wider n m t (omega arith) (λ j a b. h j a (omega arith)))))

-- A number that passes, taken off, makes the count one less.
pub count_off : (k : ℕ) (t u : ℕ → Bool) (i : ℕ) → i < k → t i ≡ true → u i ≡ false → ((j : ℕ) → j < k → (j ≡ i → ⊥) → t j ≡ u j) → count_below k t ≡ suc (count_below k u)
unfolding count_below
count_off zero t u i h a b same = absurd (omega arith)
count_off (suc k) t u i h a b same = by_eq i k
    (λ e. rw (rw e at a, rw e at b, count_same k t u (λ j lt. same j (omega arith) (omega arith))) (omega arith))
    (λ ne. rw (same k (omega arith) (omega arith), count_off k t u i (omega arith) a b (λ j lt. same j (omega arith))) (omega arith))
