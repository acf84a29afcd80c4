-- Values written into a list from a place on, one after the other.
use Rattle.std.specs.Prelude.{◌≡◌, List, [], ◌∷◌, ◌++◌, ℕ, suc, ◌+◌, length, set}
use Rattle.std.proofs.Common.{ap, ◌∙◌, add-zero, add-one, arith}
use Rattle.std.proofs.lemmas.List.Edits.{sets}

-- Values written after values that were written.
pub sets_append : {A : Type 0} (l : List A) (i : ℕ) (xs ys : List A) → sets l i (xs ++ ys) ≡ sets (sets l i xs) (i + length xs) ys
sets_append l i [] ys = rw add-zero
sets_append l i (x ∷ xs) ys = sets_append (set l i x) (suc i) xs ys ∙ ap (λ (n : ℕ). sets (sets (set l i x) (suc i) xs) n ys) (omega arith)

-- A list l that has xs written into l₀ from `at` on, and w is the place after them.
module _ {A : Type 0} (l₀ l : List A) (at w : ℕ) (xs : List A) (so_far : l ≡ sets l₀ at xs) (next : w ≡ at + length xs) where
  pub sets_after : (ys : List A) → sets l w ys ≡ sets l₀ at (xs ++ ys)
  sets_after ys = rw (sets_append, so_far, next)

  -- two values more
  pub sets_two : (x y : A) → set (set l w x) (w + 1) y ≡ sets l₀ at (xs ++ x ∷ y ∷ [])
  sets_two x y = rw (sets_append, so_far, next, add-one)
