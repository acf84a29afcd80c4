-- How many numbers below a bound pass a test, tests of the elements of a list, and whether two lists are the same. Search has the tests of all numbers and of some number.
use Rattle.std.specs.Prelude.{Bool, true, false, ◌&&◌, ◌||◌, List, [], ◌∷◌, ℕ, zero, suc, ◌+◌, eqb}
use Rattle.laws.specs.Choice.{pick}

-- how many indexes below n pass
unfoldable pub count_below : ℕ → (ℕ → Bool) → ℕ
count_below zero t = 0
count_below (suc n) t = count_below n t + pick (t n) 1 0

-- every element of a list passes
unfoldable pub every : {A : Type 0} → (A → Bool) → List A → Bool
every t [] = true
every t (x ∷ l) = t x && every t l

-- some element of a list passes
unfoldable pub some_of : {A : Type 0} → (A → Bool) → List A → Bool
some_of t [] = false
some_of t (x ∷ l) = t x || some_of t l

-- all tests of a list hold
abbrev pub all_of : List Bool → Bool
all_of tests = every (λ b. b) tests

-- two lists of numbers are the same
unfoldable pub same : List ℕ → List ℕ → Bool
same [] [] = true
same [] (b ∷ m) = false
same (a ∷ l) [] = false
same (a ∷ l) (b ∷ m) = eqb a b && same l m
