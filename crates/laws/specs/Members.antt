-- Some element of a list passes a test: by the elements that stand in the list.
use Rattle.std.specs.Prelude.{◌≡◌, refl, Bool, true, false}
use Rattle.std.proofs.Common.{sym, ◌∙◌, inl, inr}
use mathlib.Core.List.Memᴰ
use mathlib.Core.List.{List, [], ◌∷◌, Memᴰ}
use Rattle.laws.specs.Choice.{by_bool}
use Rattle.laws.specs.Elements.{same_test}
use Rattle.laws.specs.Truth.{never_both, or_left, or_in_right, or_right}
use Rattle.laws.specs.Tests.{some_of}

-- An element that passes.
pub some_in : {A : Type 0} (t : A → Bool) (l : List A) (x : A) → Memᴰ x l → t x ≡ true → some_of t l ≡ true
unfolding some_of
some_in t [] x m e = absurd (Memᴰ.not-nil m)
some_in t (y ∷ l) x m e = elim (Memᴰ.cases_cons m) [
  | inl c ↦ or_left (t y) (some_of t l) (rw (← c) e)
  | inr d ↦ or_in_right (t y) (some_of t l) (some_in t l x d e)
]

-- Where one passes, it is one of the list.
pub some_out : {A : Type 0} (t : A → Bool) (l : List A) → some_of t l ≡ true → (x : A) × Memᴰ x l × (t x ≡ true)
unfolding some_of
some_out t [] e = never_both false e refl
some_out t (y ∷ l) e = by_bool (t y)
    (λ q. (y, Memᴰ.head refl, q))
    (λ q. let w = some_out t l (or_right (t y) (some_of t l) q e) in (w.0, Memᴰ.tail w.1, w.2))

-- Where none passes, a given one does not.
pub none_of : {A : Type 0} (t : A → Bool) (l : List A) (x : A) → some_of t l ≡ false → Memᴰ x l → t x ≡ false
none_of t l x e m = by_bool (t x) (λ q. never_both (some_of t l) (some_in t l x m q) e) (λ q. q)

-- Two tests that agree on the list.
pub some_same : {A : Type 0} (t u : A → Bool) (l : List A) → ((x : A) → Memᴰ x l → t x ≡ u x) → some_of t l ≡ some_of u l
some_same t u l h = same_test (some_of t l) (some_of u l)
    (λ e. let w = some_out t l e in some_in u l w.0 w.1 (sym (h w.0 w.1) ∙ w.2))
    (λ e. let w = some_out u l e in some_in t l w.0 w.1 (h w.0 w.1 ∙ w.2))
