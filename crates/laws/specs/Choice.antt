-- One of two values by a test, and a fact by the two cases of a test.
use Rattle.std.specs.Prelude.{◌≡◌, refl, Bool, true, false, not, ℕ, eqb, ltb, leb}
use Rattle.std.proofs.Common.{eqb-true, leb-true, leb-false, lt-ltb, le-ltb}
use Rattle.std.proofs.lemmas.Bool.{eqb-false}

-- a where the test holds, else b
abbrev pub pick {ℓ} : {A : Type ℓ} → Bool → A → A → A
pick true a b = a
pick false a b = b

pub by_bool {ℓ} : {P : Type ℓ} (b : Bool) → (b ≡ true → P) → (b ≡ false → P) → P
by_bool true f g = f refl
by_bool false f g = g refl

pub by_eq {ℓ} : {P : Type ℓ} (k i : ℕ) → (k ≡ i → P) → ((k ≡ i → ⊥) → P) → P
by_eq k i f g = by_bool (eqb k i) (λ e. f (eqb-true k i e)) (λ e. g (eqb-false k i e))

pub pick_same {ℓ} : {A : Type ℓ} (b : Bool) (a : A) → pick b a a ≡ a
pick_same true a = refl
pick_same false a = refl

-- Not below is at least.
pub not_ltb : (a b : ℕ) → not (ltb a b) ≡ leb b a
not_ltb a b = by_bool (leb b a)
    (λ e. rw (e, le-ltb a b (leb-true b a e)))
    (λ e. rw (e, lt-ltb a b (leb-false b a e)))
