-- The parts of a list up to a state and after it, by intervals: an event stands up to state k where at most k checkpoints stand before it,
-- and after state k where more do.
use Rattle.std.specs.Prelude.{◌≡◌, ◌∷◌, ◌+◌, ◌≤◌, ◌<◌}
use Rattle.laws.specs.Basics.{refl, ap, List, [], inl, inr, ℕ, zero, suc, arith}
use mathlib.Core.List.Memᴰ
use mathlib.Core.List.{Memᴰ}
use native.Mathlib.Nat.{not-suc-le-zero}
use Rattle.histories.specs.History.{HistoryEvent, stored, sent, received, checkpoints, up_to, after_state}
use Rattle.histories.proofs.Places.{Stands, first, later, weight, stands_cons, stands_nil}

-- After a first event, what stands in the rest.
pub past_stored : {e : HistoryEvent} {g : ℕ} {l : List HistoryEvent} → Stands e g l → Stands e (suc g) (stored ∷ l)
unfolding weight
past_stored {g = g} s = let q : suc g ≡ weight stored + g = omega arith in later s q

-- The same after a send.
pub past_sent : {e : HistoryEvent} {g : ℕ} {l : List HistoryEvent} (m : ℕ) → Stands e g l → Stands e g (sent m ∷ l)
unfolding weight
past_sent {g = g} m s = let q : g ≡ weight (sent m) + g = omega arith in later s q

-- The same after a receipt.
pub past_received : {e : HistoryEvent} {g : ℕ} {l : List HistoryEvent} (m : ℕ) → Stands e g l → Stands e g (received m ∷ l)
unfolding weight
past_received {g = g} m s = let q : g ≡ weight (received m) + g = omega arith in later s q

-- What stands in a list is an element of it.
pub stands_member : {e : HistoryEvent} {g : ℕ} (l : List HistoryEvent) → Stands e g l → Memᴰ e l
stands_member [] s = absurd (stands_nil s)
stands_member {e = e} {g = g} (x ∷ l) s = elim (stands_cons s) [ inl w ↦ Memᴰ.head w.0 | inr w ↦ Memᴰ.tail (stands_member {g = w.0} l w.1) ]

-- An element of a list stands in some interval.
pub member_stands : {e : HistoryEvent} (l : List HistoryEvent) → Memᴰ e l → (g : ℕ) × Stands e g l
member_stands [] s = absurd (Memᴰ.not-nil s)
member_stands (x ∷ l) s = elim (Memᴰ.cases_cons s) [
  | inl e ↦ (0, first e refl)
  | inr t ↦ (let w = member_stands l t in (weight x + w.0, later w.1 refl))
]

-- What stands up to state k stands in the list, in an interval of at most k.
pub up_to_out : {e : HistoryEvent} {g : ℕ} (k : ℕ) (l : List HistoryEvent) → Stands e g (up_to k l) → Stands e g l × (g ≤ k)
unfolding up_to weight
up_to_out k [] s = absurd (stands_nil s)
up_to_out zero (stored ∷ l) s = elim (stands_cons s) [
  | inl w ↦ (first w.0 w.1, omega (arith, w.1))
  | inr w ↦ absurd (stands_nil w.1)
]
up_to_out {e = e} {g = g} (suc k) (stored ∷ l) s = elim (stands_cons s) [
  | inl w ↦ (first w.0 w.1, omega (arith, w.1))
  | inr w ↦ (let z = up_to_out {g = w.0} k l w.1 in (later z.0 w.2, omega (arith, z.1, w.2)))
]
up_to_out k (sent m ∷ l) s = elim (stands_cons s) [
  | inl w ↦ (first w.0 w.1, omega (arith, w.1))
  | inr w ↦ (let z = up_to_out k l w.1 in (later z.0 w.2, omega (arith, z.1, w.2)))
]
up_to_out k (received m ∷ l) s = elim (stands_cons s) [
  | inl w ↦ (first w.0 w.1, omega (arith, w.1))
  | inr w ↦ (let z = up_to_out k l w.1 in (later z.0 w.2, omega (arith, z.1, w.2)))
]

-- What stands in an interval of at most k stands up to state k.
pub up_to_in : {e : HistoryEvent} {g : ℕ} (k : ℕ) (l : List HistoryEvent) → Stands e g l → g ≤ k → Stands e g (up_to k l)
unfolding up_to weight
up_to_in k [] s le = absurd (stands_nil s)
up_to_in zero (stored ∷ l) s le = elim (stands_cons s) [
  | inl w ↦ first w.0 w.1
  | inr w ↦ absurd (omega (arith, w.2))
]
up_to_in {e = e} {g = g} (suc k) (stored ∷ l) s le = elim (stands_cons s) [
  | inl w ↦ first w.0 w.1
  | inr w ↦ later (up_to_in {g = w.0} k l w.1 (omega (arith, w.2))) w.2
]
up_to_in k (sent m ∷ l) s le = elim (stands_cons s) [
  | inl w ↦ first w.0 w.1
  | inr w ↦ later (up_to_in k l w.1 (omega (arith, w.2))) w.2
]
up_to_in k (received m ∷ l) s le = elim (stands_cons s) [
  | inl w ↦ first w.0 w.1
  | inr w ↦ later (up_to_in k l w.1 (omega (arith, w.2))) w.2
]

-- The part up to checkpoint k has the checkpoints 0 to k.
pub checkpoints_up_to : (k : ℕ) (l : List HistoryEvent) → k < checkpoints l → checkpoints (up_to k l) ≡ suc k
unfolding up_to checkpoints
checkpoints_up_to k [] h = absurd (not-suc-le-zero h)
checkpoints_up_to zero (stored ∷ l) h = refl
checkpoints_up_to (suc k) (stored ∷ l) h = ap suc (checkpoints_up_to k l (omega arith))
checkpoints_up_to k (sent m ∷ l) h = checkpoints_up_to k l h
checkpoints_up_to k (received m ∷ l) h = checkpoints_up_to k l h

-- What stands after state k stands in the list, in an interval above k.
pub after_state_out : {e : HistoryEvent} (k : ℕ) (l : List HistoryEvent) → Memᴰ e (after_state k l) → (g : ℕ) × Stands e g l × (k < g)
unfolding after_state weight
after_state_out k [] s = absurd (Memᴰ.not-nil s)
after_state_out zero (stored ∷ l) s = let w = member_stands l s in (suc w.0, past_stored w.1, omega arith)
after_state_out (suc k) (stored ∷ l) s = let w = after_state_out k l s in (suc w.0, past_stored w.1, omega (arith, w.2))
after_state_out k (sent m ∷ l) s = let w = after_state_out k l s in (w.0, past_sent m w.1, w.2)
after_state_out k (received m ∷ l) s = let w = after_state_out k l s in (w.0, past_received m w.1, w.2)

-- What stands in an interval above k stands after state k.
pub after_state_in : {e : HistoryEvent} {g : ℕ} (k : ℕ) (l : List HistoryEvent) → Stands e g l → k < g → Memᴰ e (after_state k l)
unfolding after_state weight
after_state_in k [] s lt = absurd (stands_nil s)
after_state_in zero (stored ∷ l) s lt = elim (stands_cons s) [
  | inl w ↦ absurd (omega (arith, w.1))
  | inr w ↦ stands_member l w.1
]
after_state_in {e = e} {g = g} (suc k) (stored ∷ l) s lt = elim (stands_cons s) [
  | inl w ↦ absurd (omega (arith, w.1))
  | inr w ↦ after_state_in {g = w.0} k l w.1 (omega (arith, w.2))
]
after_state_in k (sent m ∷ l) s lt = elim (stands_cons s) [
  | inl w ↦ absurd (omega (arith, w.1))
  | inr w ↦ after_state_in k l w.1 (omega (arith, w.2))
]
after_state_in k (received m ∷ l) s lt = elim (stands_cons s) [
  | inl w ↦ absurd (omega (arith, w.1))
  | inr w ↦ after_state_in k l w.1 (omega (arith, w.2))
]
