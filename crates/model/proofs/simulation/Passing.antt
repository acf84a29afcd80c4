-- Laws of the values at the numbers that pass a test, in ascending order: selected, mapped, tested and counted; the last of them; which numbers matter.
-- Assumes nothing.
use Rattle.std.specs.Prelude.{◌≡◌, ◌&&◌, ◌∷◌, ◌++◌, ◌≤◌, ◌<◌}
use Rattle.laws.specs.Basics.{refl, sym, ◌∙◌, Bool, true, false, [], map, append-nil, ℕ, zero, suc, arith, length, length-append, by_bool, by_eq}
use Rattle.std.specs.Option.{option_map}
use Rattle.laws.specs.{Lists.select, Lists.last_of, Search.any_below, Search.latest, Tests.count_below, Tests.some_of}
use Rattle.laws.specs.Select.{select_append, map_append, last_of_snoc, some_append, some_one, or_swap}
use Rattle.model.proofs.simulation.View.{passing}

module _ {A : Type 0} where
  -- One more number: it adds its value if it passes.
  pub passing_yes : (k : ℕ) (t : ℕ → Bool) (f : ℕ → A) → t k ≡ true → passing (suc k) t f ≡ passing k t f ++ (f k ∷ [])
  unfolding passing
  passing_yes k t f e = rw e

  pub passing_no : (k : ℕ) (t : ℕ → Bool) (f : ℕ → A) → t k ≡ false → passing (suc k) t f ≡ passing k t f
  unfolding passing
  passing_no k t f e = rw e (append-nil (passing k t f))

  -- Only the tests and the values below the bound matter, and the values only where the test passes.
  pub passing_same : (k : ℕ) (t u : ℕ → Bool) (f g : ℕ → A) → ((j : ℕ) → j < k → t j ≡ u j) → ((j : ℕ) → j < k → u j ≡ true → f j ≡ g j) → passing k t f ≡ passing k u g
  unfolding passing
  passing_same zero t u f g h v = refl
  passing_same (suc k) t u f g h v = by_bool (u k)
      (λ e. rw (h k (omega arith), e, v k (omega arith) e, passing_same k t u f g (λ j lt. h j (omega arith)) (λ j lt. v j (omega arith))))
      (λ e. rw (h k (omega arith), e, passing_same k t u f g (λ j lt. h j (omega arith)) (λ j lt. v j (omega arith))))

  -- Numbers from n on that fail do not count.
  pub passing_wider : (n m : ℕ) (t : ℕ → Bool) (f : ℕ → A) → n ≤ m → ((j : ℕ) → n ≤ j → j < m → t j ≡ false) → passing m t f ≡ passing n t f
  passing_wider n zero t f le h = rw (zero_of n le)
    where
      zero_of : (n : ℕ) → n ≤ 0 → n ≡ 0
      zero_of n h = omega arith
  passing_wider n (suc m) t f le h = by_eq n (suc m)
      (λ e. rw e)
      (λ ne. passing_no m t f (h m (omega arith) (omega arith)) ∙ passing_wider n m t f (omega arith) (λ j a b. h j a (omega arith)))

  -- No number passes.
  pub passing_none : (k : ℕ) (t : ℕ → Bool) (f : ℕ → A) → ((j : ℕ) → j < k → t j ≡ false) → passing k t f ≡ []
  unfolding passing
  passing_none zero t f h = refl
  passing_none (suc k) t f h = passing_no k t f (h k (omega arith)) ∙ passing_none k t f (λ j lt. h j (omega arith))

  -- Selecting among them.
  pub select_passing : (t : A → Bool) (k : ℕ) (u : ℕ → Bool) (f : ℕ → A) → select t (passing k u f) ≡ passing k (λ j. u j && t (f j)) f
  unfolding passing select
  select_passing t zero u f = refl
  select_passing t (suc k) u f = by_bool (u k)
      (λ e. rw (e, select_append t (passing k u f) (f k ∷ []), select_passing t k u f))
      (λ e. rw (e, append-nil (passing k u f), select_passing t k u f) (sym (append-nil (passing k (λ j. u j && t (f j)) f))))

  -- The last of them.
  pub last_passing : (k : ℕ) (u : ℕ → Bool) (f : ℕ → A) → last_of (passing k u f) ≡ option_map f (latest k u)
  unfolding passing last_of latest
  last_passing zero u f = refl
  last_passing (suc k) u f = by_bool (u k)
      (λ e. rw (e, last_of_snoc (passing k u f) (f k)))
      (λ e. rw (e, append-nil (passing k u f), last_passing k u f))

  -- Some of them passes a test.
  pub some_passing : (t : A → Bool) (k : ℕ) (u : ℕ → Bool) (f : ℕ → A) → some_of t (passing k u f) ≡ any_below k (λ j. u j && t (f j))
  unfolding passing some_of any_below
  some_passing t zero u f = refl
  some_passing t (suc k) u f = by_bool (u k)
      (λ e. rw (e, some_append t (passing k u f) (f k ∷ []), some_one t (f k), some_passing t k u f) (or_swap (any_below k (λ j. u j && t (f j))) (t (f k))))
      (λ e. rw (e, append-nil (passing k u f), some_passing t k u f))

  -- How many there are.
  pub length_passing : (k : ℕ) (u : ℕ → Bool) (f : ℕ → A) → length (passing k u f) ≡ count_below k u
  unfolding passing count_below
  length_passing zero u f = refl
  length_passing (suc k) u f = by_bool (u k)
      (λ e. rw (e, length-append (passing k u f) (f k ∷ []), length_passing k u f))
      (λ e. rw (e, append-nil (passing k u f), length_passing k u f) (omega arith))

pub map_passing : {A B : Type 0} (g : A → B) (k : ℕ) (u : ℕ → Bool) (f : ℕ → A) → map g (passing k u f) ≡ passing k u (λ j. g (f j))
unfolding passing
map_passing g zero u f = refl
map_passing g (suc k) u f = by_bool (u k)
    (λ e. rw (e, map_append g (passing k u f) (f k ∷ []), map_passing g k u f))
    (λ e. rw (e, append-nil (passing k u f), map_passing g k u f) (sym (append-nil (passing k u (λ j. g (f j))))))
