-- Which pins name a checkpoint: those of whoever knew the current interval when the run last started or recovered, and those of entries that have risen
-- since. Each step keeps this.
-- Assumes nothing.
use Rattle.std.specs.Prelude.{◌≡◌, ◌⊎◌, ◌≤◌, ◌<◌}
use Rattle.laws.specs.Basics.{refl, sym, ◌∙◌, Option, None, Some, inl, inr, ℕ, arith, ltb, ltb-true, ltb-false, by_bool, by_eq}
use Rattle.histories.proofs.Run.{Ideal, Failed, begin, checkpointed, sending, forces, taken_in, delivered, lost, recovered}
use Rattle.histories.proofs.{Invariant.Inv, Line.own_pin, Begin.begin_inv, Begin.begin_own, Begin.begin_self, Begin.begin_pin_other}
use Rattle.histories.proofs.CheckpointedViews.{checkpointed_n, checkpointed_row_own, checkpointed_row_other, checkpointed_row, checkpointed_pin, checkpointed_pin_row, checkpointed_pin_column, checkpointed_receiver}
use Rattle.histories.proofs.{Checkpointed.checkpointed_inv, Sending.sending_n, Sending.sending_own, Sending.sending_vector, Sending.sending_pin}
use Rattle.histories.proofs.{Lost.lost_n, Lost.lost_own, Lost.lost_vector, Lost.lost_pin, Delivered.delivered_forced, Delivered.delivered_plain}
use Rattle.histories.proofs.TakenInViews.{taken_in_n, taken_in_row, taken_in_row_other, taken_in_pin_risen, taken_in_pin_same, taken_in_pin_other}
use Rattle.histories.proofs.{Recovered.recovered_inv, RecoveredViews.recovered_pin_none}

-- Entry f of the live state of p.
abbrev pub row : Ideal → ℕ → ℕ → ℕ
row r p f = r.vector p (r.own p) f

-- A step that is no recovery: each entry stays, and so does its pin, or it rises, and its pin names a checkpoint.
pub record Learns (r r' : Ideal) : Type 0 where
  pub size : r'.n ≡ r.n
  pub each : (p f : ℕ) → f < r.n → ((row r' p f ≡ row r p f) × (r'.pin p f ≡ r.pin p f)) ⊎ ((row r p f < row r' p f) × (k : ℕ) × (r'.pin p f ≡ Some k))

pub same_learns : (r : Ideal) → Learns r r
same_learns r = record { size = refl; each = λ p f hf. inl (refl, refl) }

pub sending_learns : (r : Ideal) (i j : ℕ) → Learns r (sending r i j)
sending_learns r i j = record { size = sending_n r i j; each = λ p f hf. inl (rw (row, sending_own r i j p) (sending_vector r i j p (r.own p) f), sending_pin r i j p f) }

pub lost_learns : (r : Ideal) (m : ℕ) → Learns r (lost r m)
lost_learns r m = record { size = lost_n r m; each = λ p f hf. inl (rw (row, lost_own r m p) (lost_vector r m p (r.own p) f), lost_pin r m p f) }

pub checkpointed_learns : (r : Ideal) (i : ℕ) → Inv r → Learns r (checkpointed r i)
checkpointed_learns r i v = record {
  size = checkpointed_n r i;
  each = λ p f hf. by_eq p i
      (λ e. by_eq f i
      (λ c. rw (e, c) (inr (omega (arith, checkpointed_row_own r i, v.self i (r.own i) (omega arith)), r.own i, checkpointed_pin r i)))
      (λ nc. inl (checkpointed_row r i p f nc, checkpointed_pin_column r i p f nc)))
      (λ ne. inl (checkpointed_row_other r i p f ne, checkpointed_pin_row r i p f ne));
}

taken_in_learns : (r : Ideal) (m : ℕ) → Inv r → r.receiver m < r.n → Learns r (taken_in r m)
taken_in_learns r m v hi =
    let i = r.receiver m in
    record {
      size = taken_in_n r m;
      each = λ p f hf. by_eq p i
          (λ e. rw e (by_bool (ltb (row r i f) (r.carried m f))
          (λ c. let less : row r i f < r.carried m f = ltb-true _ _ c in
          let w = own_pin r v i hi in
          inr (omega (arith, taken_in_row r m f), w.0, taken_in_pin_risen r m f less ∙ w.1))
          (λ c. let no_less : r.carried m f ≤ row r i f = ltb-false _ _ c in
          inl (omega (arith, taken_in_row r m f), taken_in_pin_same r m f no_less))))
          (λ ne. inl (taken_in_row_other r m p f ne, taken_in_pin_other r m p f ne));
    }

-- One such step after another.
both_learn : (r s t : Ideal) → Learns r s → Learns s t → Learns r t
both_learn r s t a b = record {
  size = b.size ∙ a.size;
  each = λ p f hf. elim (a.each p f hf) [
    | inl x ↦ elim (b.each p f (omega (arith, a.size))) [
      | inl y ↦ inl (y.0 ∙ x.0, y.1 ∙ x.1)
      | inr y ↦ inr (omega (arith, x.0, y.0), y.1, y.2)
    ]
    | inr x ↦ elim (b.each p f (omega (arith, a.size))) [
      | inl y ↦ inr (omega (arith, x.0, y.0), x.1, y.1 ∙ x.2)
      | inr y ↦ inr (omega (arith, x.0, y.0), y.1, y.2)
    ]
  ];
}

pub delivered_learns : (r : Ideal) (m : ℕ) → Inv r → r.receiver m < r.n → Learns r (delivered r m)
delivered_learns r m v hi = by_bool (forces r m)
    (λ e. let i = r.receiver m in
    rw (delivered_forced r m e) (both_learn r (checkpointed r i) (taken_in (checkpointed r i) m) (checkpointed_learns r i v)
    (taken_in_learns (checkpointed r i) m (checkpointed_inv r i v) (omega (arith, checkpointed_receiver r i m, checkpointed_n r i)))))
    (λ e. rw (delivered_plain r m e) (taken_in_learns r m v hi))

-- The pins of r, where r₀ is the run when it last started or recovered.
abbrev pub Current : Ideal → Ideal → ℕ → ℕ → Type 0
Current r₀ r p f = (row r₀ p f ≡ r₀.own f) ⊎ (row r₀ p f < row r p f)

pub record Standing (r₀ r : Ideal) : Type 0 where
  pub size : r.n ≡ r₀.n
  pub rows : (p f : ℕ) → f < r₀.n → row r₀ p f ≤ row r p f
  pub current : (p f k : ℕ) → f < r₀.n → r.pin p f ≡ Some k → Current r₀ r p f
  pub pinned : (p f : ℕ) → f < r₀.n → Current r₀ r p f → (k : ℕ) × (r.pin p f ≡ Some k)

pub next_standing : (r₀ r r' : Ideal) → Standing r₀ r → Learns r r' → Standing r₀ r'
next_standing r₀ r r' h step = record {
  size = step.size ∙ h.size;
  rows = λ p f hf. elim (step.each p f (omega (arith, h.size))) [
    | inl x ↦ omega (arith, x.0, h.rows p f hf)
    | inr x ↦ omega (arith, x.0, h.rows p f hf)
  ];
  current = λ p f k hf e. elim (step.each p f (omega (arith, h.size))) [
    | inl x ↦ elim (h.current p f k hf (sym x.1 ∙ e)) [ inl c ↦ inl c | inr c ↦ inr (omega (arith, x.0, c)) ]
    | inr x ↦ inr (omega (arith, x.0, h.rows p f hf))
  ];
  pinned = λ p f hf c. elim (step.each p f (omega (arith, h.size))) [
    | inl x ↦ (let w = h.pinned p f hf (elim c [ inl z ↦ inl z | inr z ↦ inr (omega (arith, x.0, z)) ]) in (w.0, x.1 ∙ w.1))
    | inr x ↦ (x.1, x.2)
  ];
}

-- A run all of whose pins are current, as at the start and right after a recovery.
fresh_standing : (r : Ideal) → Inv r → ((p f k : ℕ) → f < r.n → r.pin p f ≡ Some k → row r p f ≡ r.own f) → Standing r r
fresh_standing r v fresh = record {
  size = refl;
  rows = λ p f hf. omega arith;
  current = λ p f k hf e. inl (fresh p f k hf e);
  pinned = λ p f hf c. elim c [ inl e ↦ v.pinned p f hf e | inr lt ↦ absurd (omega arith) ];
}

no_pin : (o : Option ℕ) (k : ℕ) → o ≡ None → o ≡ Some k → ⊥
no_pin o k a b = let z : ◌≡◌ {A = ℕ} 0 1 = cc in omega arith

pub begin_standing : (n : ℕ) → Standing (begin n) (begin n)
begin_standing n = fresh_standing (begin n) (begin_inv n) (λ p f k hf e. by_eq p f
    (λ c. rw (← c, row, begin_own n p) (begin_self n p 1 (λ z. omega arith)))
    (λ ne. absurd (no_pin ((begin n).pin p f) k (begin_pin_other n p f ne) e)))

pub recovered_standing : (r : Ideal) (F : Failed) → Inv r → Standing (recovered r F) (recovered r F)
recovered_standing r F v = fresh_standing (recovered r F) (recovered_inv r v F) (λ p f k hf e. by_eq (row (recovered r F) p f) ((recovered r F).own f)
    (λ c. c)
    (λ ne. absurd (no_pin ((recovered r F).pin p f) k (recovered_pin_none r F p f ne) e)))
