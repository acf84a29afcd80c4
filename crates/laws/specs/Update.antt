-- A function of an index, changed at one index.
use Rattle.std.specs.Prelude.{◌≡◌, refl, ℕ, eqb}
use Rattle.std.proofs.Common.{ap, eq-eqb, ne_eqb}
use Rattle.laws.specs.Choice.{pick}

unfoldable pub upd {ℓ} : {A : Type ℓ} → (ℕ → A) → ℕ → A → ℕ → A
upd f i x k = pick (eqb k i) x (f k)

pub upd_same {ℓ} : {A : Type ℓ} (f : ℕ → A) (i : ℕ) (x : A) → upd f i x i ≡ x
unfolding upd
upd_same f i x = rw (eq-eqb i i refl)

pub upd_other {ℓ} : {A : Type ℓ} (f : ℕ → A) (i : ℕ) (x : A) (k : ℕ) → (k ≡ i → ⊥) → upd f i x k ≡ f k
unfolding upd
upd_other f i x k h = rw (ne_eqb k i h)

-- The same where the value is itself a function of one or two arguments: a rewriting finds a call only with all its arguments.
pub upd_same₁ {ℓ κ} : {B : Type κ} {C : Type ℓ} (f : ℕ → B → C) (i : ℕ) (x : B → C) (b : B) → upd f i x i b ≡ x b
upd_same₁ f i x b = ap (λ k. k b) (upd_same f i x)

pub upd_other₁ {ℓ κ} : {B : Type κ} {C : Type ℓ} (f : ℕ → B → C) (i : ℕ) (x : B → C) (k : ℕ) (b : B) → (k ≡ i → ⊥) → upd f i x k b ≡ f k b
upd_other₁ f i x k b h = ap (λ g. g b) (upd_other f i x k h)

pub upd_same₂ {ℓ κ μ} : {B : Type κ} {D : Type μ} {C : Type ℓ} (f : ℕ → B → D → C) (i : ℕ) (x : B → D → C) (b : B) (d : D) → upd f i x i b d ≡ x b d
upd_same₂ f i x b d = ap (λ k. k b d) (upd_same f i x)

pub upd_other₂ {ℓ κ μ} : {B : Type κ} {D : Type μ} {C : Type ℓ} (f : ℕ → B → D → C) (i : ℕ) (x : B → D → C) (k : ℕ) (b : B) (d : D) → (k ≡ i → ⊥) → upd f i x k b d ≡ f k b d
upd_other₂ f i x k b d h = ap (λ g. g b d) (upd_other f i x k h)

pub ruleset upds = (upd_same, upd_other, upd_same₁, upd_other₁, upd_same₂, upd_other₂)
