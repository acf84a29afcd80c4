-- The part of a list before a checkpoint, by intervals: what stands in it stands in the list with at most that many checkpoints before it.
-- Assumes nothing.
use Rattle.std.specs.Prelude.{◌≡◌, ◌∷◌, ◌≤◌, ◌<◌}
use Rattle.laws.specs.Basics.{refl, ap, List, [], inl, inr, ℕ, zero, suc, arith}
use mathlib.Core.List.Memᴰ
use mathlib.Core.List.{Memᴰ}
use native.Mathlib.Nat.{not-suc-le-zero}
use Rattle.histories.specs.History.{HistoryEvent, stored, sent, received, checkpoints, before_checkpoint}
use Rattle.histories.proofs.Apart.{received_stored}
use Rattle.histories.proofs.Places.{Stands, first, weight, stands_cons, stands_nil}
use Rattle.histories.proofs.Cuts.{past_stored, past_sent, past_received}

-- It has the checkpoints 0 to k - 1.
pub past_checkpoints : (k : ℕ) (l : List HistoryEvent) → k < checkpoints l → checkpoints (before_checkpoint k l) ≡ k
unfolding before_checkpoint checkpoints
past_checkpoints k [] h = absurd (not-suc-le-zero h)
past_checkpoints zero (stored ∷ l) h = refl
past_checkpoints (suc k) (stored ∷ l) h = ap suc (past_checkpoints k l (omega arith))
past_checkpoints k (sent m ∷ l) h = past_checkpoints k l h
past_checkpoints k (received m ∷ l) h = past_checkpoints k l h

pub past_out : {e : HistoryEvent} (k : ℕ) (l : List HistoryEvent) → Memᴰ e (before_checkpoint k l) → (g : ℕ) × Stands e g l × (g ≤ k)
unfolding before_checkpoint
past_out k [] s = absurd (Memᴰ.not-nil s)
past_out zero (stored ∷ l) s = absurd (Memᴰ.not-nil s)
past_out (suc k) (stored ∷ l) s = elim (Memᴰ.cases_cons s) [
  | inl e ↦ (0, first e refl, omega arith)
  | inr t ↦ (let w = past_out k l t in (suc w.0, past_stored w.1, omega (arith, w.2)))
]
past_out k (sent m ∷ l) s = elim (Memᴰ.cases_cons s) [
  | inl e ↦ (0, first e refl, omega arith)
  | inr t ↦ (let w = past_out k l t in (w.0, past_sent m w.1, w.2))
]
past_out k (received m ∷ l) s = elim (Memᴰ.cases_cons s) [
  | inl e ↦ (0, first e refl, omega arith)
  | inr t ↦ (let w = past_out k l t in (w.0, past_received m w.1, w.2))
]

-- A receipt with at most k checkpoints before it stands before checkpoint k.
pub past_in : {m g : ℕ} (k : ℕ) (l : List HistoryEvent) → Stands (received m) g l → g ≤ k → Memᴰ (received m) (before_checkpoint k l)
unfolding before_checkpoint weight
past_in k [] s le = absurd (stands_nil s)
past_in {m} zero (stored ∷ l) s le = elim (stands_cons s) [
  | inl w ↦ absurd (received_stored m w.0)
  | inr w ↦ absurd (omega (arith, w.2))
]
past_in {m = m} {g = g} (suc k) (stored ∷ l) s le = elim (stands_cons s) [
  | inl w ↦ absurd (received_stored m w.0)
  | inr w ↦ Memᴰ.tail (past_in {g = w.0} k l w.1 (omega (arith, w.2)))
]
past_in k (sent j ∷ l) s le = elim (stands_cons s) [
  | inl w ↦ Memᴰ.head w.0
  | inr w ↦ Memᴰ.tail (past_in k l w.1 (omega (arith, w.2)))
]
past_in k (received j ∷ l) s le = elim (stands_cons s) [
  | inl w ↦ Memᴰ.head w.0
  | inr w ↦ Memᴰ.tail (past_in k l w.1 (omega (arith, w.2)))
]
