-- Small laws of tests: what a conjunction and a disjunction say.
use Rattle.std.specs.Prelude.{◌≡◌, refl, Bool, true, false, ◌&&◌, ◌||◌}
use Rattle.std.proofs.Common.{sym, ◌∙◌}
use Rattle.std.proofs.lemmas.Bool.{false≢true}

-- A test does not both hold and fail.
pub never_both {ℓ} : {P : Type ℓ} (b : Bool) → b ≡ true → b ≡ false → P
never_both b e d = absurd (false≢true (sym d ∙ e))

-- The first half of a conjunction that holds.
pub and_left : (a b : Bool) → (a && b) ≡ true → a ≡ true
and_left true b e = refl
and_left false b e = e

-- The second half of a conjunction that holds.
pub and_right : (a b : Bool) → (a && b) ≡ true → b ≡ true
and_right true b e = e
and_right false b e = absurd (false≢true e)

-- Both halves.
pub and_out : (a b : Bool) → (a && b) ≡ true → (a ≡ true) × (b ≡ true)
and_out a b e = (and_left a b e, and_right a b e)

-- A conjunction of two tests that hold.
pub and_both : (a b : Bool) → a ≡ true → b ≡ true → (a && b) ≡ true
and_both a b p q = rw (p, q)

-- A conjunction whose second half fails.
pub and_no_right : (a b : Bool) → b ≡ false → (a && b) ≡ false
and_no_right true b e = e
and_no_right false b e = refl

-- A disjunction whose first half holds.
pub or_left : (a b : Bool) → a ≡ true → (a || b) ≡ true
or_left a b e = rw e

-- A disjunction whose second half holds.
pub or_in_right : (a b : Bool) → b ≡ true → (a || b) ≡ true
or_in_right true b e = refl
or_in_right false b e = e

-- A disjunction of which the first half fails.
pub or_right : (a b : Bool) → a ≡ false → (a || b) ≡ true → b ≡ true
or_right true b d e = absurd (false≢true (sym d))
or_right false b d e = e

-- Neither part of a test that is false holds.
pub or_none : (a b : Bool) → (a || b) ≡ false → (a ≡ false) × (b ≡ false)
or_none true b e = never_both true refl e
or_none false b e = (refl, e)
