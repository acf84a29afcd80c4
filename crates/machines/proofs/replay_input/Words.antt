-- The word `all`, byte by byte.
-- Assumes nothing.
use Rattle.std.specs.Prelude.{◌≡◌, ◌&&◌, ◌∷◌}
use Rattle.laws.specs.Basics.{refl, false, List, [], ℕ, arith, eqb, length, get_or, by_bool}
use Rattle.laws.specs.Tests.{same}

-- A word of three bytes is the same if each byte is.
pub three_bytes : (l : List ℕ) (x y z : ℕ) → length l ≡ 3 → same l (x ∷ y ∷ z ∷ []) ≡ (eqb (get_or l 0 0) x && (eqb (get_or l 1 0) y && eqb (get_or l 2 0) z))
unfolding same
three_bytes [] x y z h = absurd (omega arith)
three_bytes (a ∷ []) x y z h = absurd (omega arith)
three_bytes (a ∷ b ∷ []) x y z h = absurd (omega arith)
three_bytes (a ∷ b ∷ c ∷ []) x y z h = by_bool (eqb c z) (λ e. rw e) (λ e. rw e)
three_bytes (a ∷ b ∷ c ∷ d ∷ l) x y z h = absurd (omega arith)

-- A word of another length is another one.
neither : (p q : ℕ) → (eqb p q && false) ≡ false
neither p q = by_bool (eqb p q) (λ e. rw e) (λ e. rw e)

pub not_three : (l : List ℕ) (x y z : ℕ) → (length l ≡ 3 → ⊥) → same l (x ∷ y ∷ z ∷ []) ≡ false
unfolding same
not_three [] x y z h = refl
not_three (a ∷ []) x y z h = neither a x
not_three (a ∷ b ∷ []) x y z h = rw (neither b y) (neither a x)
not_three (a ∷ b ∷ c ∷ []) x y z h = absurd (h refl)
not_three (a ∷ b ∷ c ∷ d ∷ l) x y z h = rw (neither c z, neither b y) (neither a x)
