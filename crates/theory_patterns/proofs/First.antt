-- The verdict: without a crossing message a pattern is trackable; with one, the first pair that breaks is the least crossing and the least of what its
-- closure reaches.
-- Assumes nothing.
use Rattle.std.specs.Prelude.{◌≡◌, ◌⊎◌, ◌≤◌, ◌<◌}
use Rattle.laws.specs.Basics.{ap, inl, inr, ℕ, suc, arith, ltb, ltb-true, ltb-false, by_bool}
use Rattle.histories.specs.History.{sent, received, Lists, checkpoints}
use Rattle.theory_patterns.specs.Paths.{StandsIn, Path, one, onward, Before, Breaking, Trackable, Earlier, FirstBreaking}
use Rattle.theory_patterns.proofs.{Placing.stands_le, Core.Vectors, Core.Crossing, Core.higher, Core.known_or_crossing, Core.reached}

-- Where a path's last message is received, the far end has that interval.
arrives : {lists : Lists} {a α b h : ℕ} → Path lists a α b h → h ≤ checkpoints (lists b)
arrives {lists} (one {b = b} s lt r) = stands_le (lists b) r
arrives {lists} (onward {b = b} w s le r) = stands_le (lists b) r

module _ (n : ℕ) (lists : Lists) (v : Vectors lists)
    (by_entry : (a α b β : ℕ) → α < checkpoints (lists a) → β ≤ checkpoints (lists b) → α < v.vector b β a → Before lists a α b β)
    (entry_by : (a α b β : ℕ) → α < checkpoints (lists a) → β ≤ checkpoints (lists b) → Before lists a α b β → α < v.vector b β a) where
  pub trackable : ((f : ℕ) → Crossing lists v f → ⊥) → Trackable n lists
  unfolding Trackable
  trackable none a α b β ha hα hb hβ z = by_entry a α b β hα hβ (elim (known_or_crossing lists v α z.1) [
    | inl k ↦ omega (arith, k, higher lists v b z.0 β a z.2 hβ)
    | inr c ↦ absurd (none a c.0)
  ])

  -- The far end of a breaking pair does not know the near end, so a message on the way crosses.
  unknown : (a α b β : ℕ) → Breaking n lists a α b β → v.vector b β a ≤ α
  unknown a α b β w = by_bool (ltb α (v.vector b β a))
      (λ e. absurd (w.unordered (by_entry a α b β w.near_stored w.far_there (ltb-true α (v.vector b β a) e))))
      (λ e. ltb-false α (v.vector b β a) e)

  breaking_crossing : (a α b β : ℕ) → Breaking n lists a α b β → (c : Crossing lists v a) × (v.vector c.q c.h a ≤ α)
  breaking_crossing a α b β w = elim (known_or_crossing lists v α w.path.1) [
    | inl k ↦ absurd (omega (arith, k, unknown a α b β w, higher lists v b w.path.0 β a w.path.2 w.far_there))
    | inr c ↦ c
  ]

  module _ (p k q x : ℕ) (hp : p < n) (hq : q < n) (hk : k < checkpoints (lists p))
      -- the near end: no process before p has a crossing message, and none of p's crosses below k
      (none_before : (f : ℕ) → f < p → Crossing lists v f → ⊥)
      (none_below : (c : Crossing lists v p) → k ≤ v.vector c.q c.h p)
      -- the closure
      (R : ℕ → ℕ) (start : R p ≤ suc k)
      (closed : (s g b h m : ℕ) → StandsIn (sent m) g (lists s) → StandsIn (received m) h (lists b) → R s ≤ g → R b ≤ h)
      -- the far end: a path reaches it, it does not know the near end, and what is reached of the processes before q does
      (reach : R q ≡ x) (path : Path lists p k q x) (not_known : v.vector q x p ≤ k)
      (known-before : (b : ℕ) → b < q → R b ≤ checkpoints (lists b) → k < v.vector b (R b) p) where
    breaks : Breaking n lists p k q x
    breaks = record {
      near = hp;
      near_stored = hk;
      far = hq;
      far_there = arrives path;
      path = (x, path, omega arith);
      unordered = λ o. omega (arith, entry_by p k q x hk (arrives path) o, not_known);
    }

    none_earlier : (b β : ℕ) → Breaking n lists p k b β → (b < q) ⊎ ((b ≡ q) × (β < x)) → ⊥
    none_earlier b β w (inl lt) =
        let h = w.path.0 in
        let low = reached lists p k R start closed w.path.1 in
        omega (arith, unknown p k b β w, known-before b lt (omega (arith, low, w.path.2, w.far_there)), higher lists v b (R b) β p (omega (arith, low, w.path.2)) w.far_there)
    none_earlier b β w (inr e) =
        let low = reached lists p k R start closed w.path.1 in
        omega (arith, low, w.path.2, e.1, ap R e.0, reach)

    index : (a α b β : ℕ) → Breaking n lists a α b β → a ≡ p → k ≤ α
    index a α b β w e = let c = breaking_crossing p α b β (rw e at w) in omega (arith, none_below c.0, c.1)

    earlier : (a α b β : ℕ) → Breaking n lists a α b β → Earlier a α b β p k q x → ⊥
    unfolding Earlier
    earlier a α b β w (inl lt) = none_before a lt (breaking_crossing a α b β w).0
    earlier a α b β w (inr (e, inl lt)) = omega (arith, index a α b β w e)
    earlier a α b β w (inr (e, inr (d, far))) = none_earlier b β (rw d at (rw e at w)) far

    pub first_breaking : FirstBreaking n lists p k q x
    first_breaking = record { breaks = breaks; first = earlier }
