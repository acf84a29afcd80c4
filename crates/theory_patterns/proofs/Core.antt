-- The core of the judge: what the vectors of the states say of zigzag paths. A message is crossing for f where the state that ends its sender's interval
-- knows more of f than the state that ends its receiver's interval. Without a crossing message every zigzag path goes with precedence; the first near end
-- that breaks is read off the crossing messages.
-- Assumes nothing.
use Rattle.std.specs.Prelude.{◌≡◌, ◌⊎◌, ◌-◌, ◌≤◌, ◌<◌}
use Rattle.laws.specs.Basics.{ap, inl, inr, ℕ, zero, suc, arith, ltb, ltb-true, ltb-false, by_bool, by_eq}
use Rattle.histories.specs.History.{sent, received, Lists, checkpoints}
use Rattle.theory_patterns.specs.Paths.{StandsIn, Path, one, onward}
use Rattle.theory_patterns.proofs.Placing.{stands_le}

-- What the proof uses of the vectors: V p k f is entry f of state k of p, C m f what message m carried.
pub record Vectors (lists : Lists) : Type 0 where
  pub vector : ℕ → ℕ → ℕ → ℕ
  pub carried : ℕ → ℕ → ℕ
  pub rises : (p k f : ℕ) → k < checkpoints (lists p) → vector p k f ≤ vector p (suc k) f
  pub sends : (p g m : ℕ) → StandsIn (sent m) g (lists p) → carried m p ≡ g
  pub takes : (p h m f : ℕ) → StandsIn (received m) h (lists p) → carried m f ≤ vector p h f
  pub learnt : (p k f : ℕ) → k ≤ checkpoints (lists p) → (p ≡ f → ⊥) → 1 ≤ vector p k f → (h : ℕ) × Path lists f (vector p k f - 1) p h × (h ≤ k)
  pub self : (p k : ℕ) → k ≤ checkpoints (lists p) → vector p k p ≡ k

module _ (lists : Lists) (v : Vectors lists) where
  -- States of one process know more and more.
  pub higher : (p k j f : ℕ) → k ≤ j → j ≤ checkpoints (lists p) → v.vector p k f ≤ v.vector p j f
  higher p k zero f h l = by_eq k zero (λ e. rw e (omega arith)) (λ ne. absurd (omega arith))
  higher p k (suc j) f h l = by_eq k (suc j)
      (λ e. rw e (omega arith))
      (λ ne. omega (arith, higher p k j f (omega arith) (omega arith), v.rises p j f (omega arith)))

  -- A path that begins later begins earlier too.
  pub weaker : {a : ℕ} (α β : ℕ) {b h : ℕ} → α ≤ β → Path lists a β b h → Path lists a α b h
  weaker α β le (one s lt r) = one s (omega arith) r
  weaker α β le (onward w s le2 r) = onward (weaker α β le w) s le2 r

  -- A message from interval g of p to interval h of q that crosses for f.
  pub record Crossing (f : ℕ) : Type 0 where
    pub p : ℕ
    pub g : ℕ
    pub q : ℕ
    pub h : ℕ
    pub m : ℕ
    pub sent_in_lem : StandsIn (sent m) g (lists p)
    pub received_in : StandsIn (received m) h (lists q)
    pub crosses : v.vector q h f < v.vector p g f

  -- The far end of a path knows the near end, unless a message on the way crosses at or below the near end.
  pub known_or_crossing : {a : ℕ} (α : ℕ) {b h : ℕ} → Path lists a α b h → (α < v.vector b h a) ⊎ ((c : Crossing a) × (v.vector c.q c.h a ≤ α))
  known_or_crossing {a} α (one {b = b} {g = g} {h = h} {m = m} s lt r) = inl (omega (arith, v.sends a g m s, v.takes b h m a r))
  known_or_crossing {a} α (onward {c = c} {h = h} {b = b} {g = g} {j = j} {m = m} w s le r) = elim (known_or_crossing α w) [
    | inl k ↦ by_bool (ltb α (v.vector b j a))
        (λ e. inl (ltb-true α (v.vector b j a) e))
        (λ e. inr (
          record {
            p = c;
            g = g;
            q = b;
            h = j;
            m = m;
            sent_in_lem = s;
            received_in = r;
            crosses = omega (arith, ltb-false α (v.vector b j a) e, k, higher c h g a (omega (arith, le)) (stands_le (lists c) s));
          },
          ltb-false α (v.vector b j a) e,
        ))
    | inr x ↦ inr x
  ]

  -- The sender of a message that crosses for f is not f: its receiver knows the interval of the send.
  sender_other : (f : ℕ) (c : Crossing f) → c.p ≡ f → ⊥
  sender_other f c e =
      let there = stands_le (lists c.p) c.sent_in_lem in
      omega (
        arith,
        c.crosses,
        ap (v.vector c.q c.h) e,
        ap (v.vector c.p c.g) e,
        v.takes c.q c.h c.m c.p c.received_in,
        v.sends c.p c.g c.m c.sent_in_lem,
        v.self c.p c.g there,
      )

  -- A crossing message ends a path from what its receiver's state still does not know.
  pub crossing_path : (f : ℕ) (c : Crossing f) → Path lists f (v.vector c.q c.h f) c.q c.h
  crossing_path f c =
      let w = v.learnt c.p c.g f (stands_le (lists c.p) c.sent_in_lem) (sender_other f c) (omega (arith, c.crosses)) in
      onward (weaker (v.vector c.q c.h f) (v.vector c.p c.g f - 1) (omega (arith, c.crosses)) w.1) c.sent_in_lem w.2 c.received_in

-- The closure from a near end: the earliest interval of each process that a path reaches, or a number above all intervals.
module _ (lists : Lists) (p k : ℕ) (R : ℕ → ℕ) (start : R p ≤ suc k)
    (closed : (q g b h m : ℕ) → StandsIn (sent m) g (lists q) → StandsIn (received m) h (lists b) → R q ≤ g → R b ≤ h) where
  pub reached : {b h : ℕ} → Path lists p k b h → R b ≤ h
  reached (one {b = b} {g = g} {h = h} {m = m} s lt r) = closed p g b h m s r (omega arith)
  reached (onward {c = c} {h = h} {b = b} {g = g} {j = j} {m = m} w s le r) = closed c g b j m s r (omega (arith, reached w))
