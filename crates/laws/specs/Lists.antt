-- Lists: the elements that pass a test, the last one, a list by its index, lists put together, and a list laid into a table of fixed size.
use Rattle.std.specs.Prelude.{Bool, List, [], ◌∷◌, ◌++◌, ℕ, zero, suc, ◌-◌, length, replicate, Option, None, Some}
use Rattle.laws.specs.Choice.{pick}

-- the elements that pass, in their order
unfoldable pub select : {A : Type 0} → (A → Bool) → List A → List A
select t [] = []
select t (x ∷ l) = pick (t x) (x ∷ select t l) (select t l)

-- a value, or x where there is none
abbrev pub or_else : {A : Type 0} → Option A → A → A
or_else None x = x
or_else (Some y) x = y

-- the last element, if there is one
unfoldable pub last_of : {A : Type 0} → List A → Option A
last_of [] = None
last_of (x ∷ l) = Some (or_else (last_of l) x)

-- f 0, f 1, .., f (n - 1)
unfoldable pub table : {A : Type 0} → ℕ → (ℕ → A) → List A
table zero f = []
table (suc n) f = table n f ++ (f n ∷ [])

-- the lists f 0, f 1, .., f (n - 1) one after the other
unfoldable pub gather : {A : Type 0} → ℕ → (ℕ → List A) → List A
gather zero f = []
gather (suc n) f = gather n f ++ f n

-- a list laid into a table of `size` places, the unused ones filled
unfoldable pub placed : {A : Type 0} → ℕ → A → List A → List A
placed size unused l = l ++ replicate (size - length l) unused
