-- What comes after a checkpoint of a process, the near end: later places of its list, and places after the receipt of a message that carries it.
-- Which messages carry it is said by its two laws: those that the process sends after it, and those that are sent after such a receipt.
-- Assumes nothing.
use Rattle.std.specs.Prelude.{◌≡◌, ◌⊎◌, ◌≤◌, ◌<◌}
use Rattle.laws.specs.Basics.{refl, sym, ◌∙◌, Some, inl, inr, ℕ, arith, by_eq}
use Rattle.laws.specs.Options.{some_same}
use Rattle.histories.specs.History.{sent, received, Lists, checkpoints}
use Rattle.histories.proofs.Apart.{sent_stored, sent_received}
use Rattle.theory_patterns.specs.Paths.{event_at, interval, place_of, Precedes, next, message, through}
use Rattle.theory_patterns.proofs.Placing.{interval_after, place_stored}

module _ (lists : Lists) (a α : ℕ) (Carries : ℕ → Type 0) where
  -- Place j of q comes after the near end, or is it: by its own list, or by a message that was received up to there.
  Has : ℕ → ℕ → Type 0
  Has q j = ((q ≡ a) × (place_of α (lists a) ≤ j)) ⊎ ((m : ℕ) × (i : ℕ) × (event_at (lists q) i ≡ Some (received m)) × (i ≤ j) × Carries m)

  -- The same, and it is not the near end itself.
  unfoldable pub Knows : ℕ → ℕ → Type 0
  Knows q j = ((q ≡ a) × (place_of α (lists a) < j)) ⊎ ((m : ℕ) × (i : ℕ) × (event_at (lists q) i ≡ Some (received m)) × (i ≤ j) × Carries m)

  has : (q j : ℕ) → Knows q j → Has q j
  unfolding Has Knows
  has q j (inl w) = inl (w.0, omega (arith, w.1))
  has q j (inr w) = inr w

  module _ (near : α < checkpoints (lists a)) (own : (j m : ℕ) → event_at (lists a) j ≡ Some (sent m) → α < interval (lists a) j → Carries m)
      (relayed : (q i j x m : ℕ) → event_at (lists q) i ≡ Some (received x) → event_at (lists q) j ≡ Some (sent m) → i < j → Carries x → Carries m) where
    -- A send from a place that has it carries it.
    carries : (q j m : ℕ) → event_at (lists q) j ≡ Some (sent m) → Has q j → Carries m
    unfolding Has
    carries q j m e (inl w) =
        let here : event_at (lists a) j ≡ Some (sent m) = rw w.0 at e in
        by_eq (place_of α (lists a)) j
        (λ c. absurd (sent_stored m (some_same (sym here ∙ (rw c at (place_stored (lists a) α near))))))
        (λ ne. own j m here (interval_after (lists a) j α near (omega (arith, w.1))))
    carries q j m e (inr (x, i, r, le, c)) = by_eq i j
        (λ d. absurd (sent_received m x (some_same (sym e ∙ (rw d at r)))))
        (λ ne. relayed q i j x m r e (omega arith) c)

    onto : (q j r k : ℕ) → Precedes lists q j r k → Has q j → Knows r k
    unfolding Has Knows
    onto q j r k (next lt) (inl w) = inl (w.0, omega (arith, w.1))
    onto q j r k (next lt) (inr (m, i, e, le, c)) = inr (m, i, e, omega arith, c)
    onto q j r k (message {m = m} d e) h = inr (m, k, e, omega arith, carries q j m d h)
    onto q j r k (through {q = t} {j = u} x y) h = onto t u r k y (has t u (onto q j t u x h))

    pub reached : (q j : ℕ) → Precedes lists a (place_of α (lists a)) q j → Knows q j
    unfolding Has
    reached q j p = onto a (place_of α (lists a)) q j p (inl (refl, omega arith))
