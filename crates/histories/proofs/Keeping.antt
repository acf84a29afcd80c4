-- What each step does to the kept checkpoints: nothing that was not kept comes back, and a newly stored checkpoint is kept.
use Rattle.std.specs.Prelude.{◌≡◌, ◌⊎◌, ◌≤◌, ◌<◌}
use Rattle.laws.specs.Basics.{sym, ◌∙◌, true, inl, inr, ℕ, suc, arith, by_bool, by_eq}
use Rattle.histories.proofs.Run.{Ideal, Failed, keeps, forces, checkpointed, sending, delivered, lost, recovered}
use Rattle.histories.proofs.{Invariant.Inv, Line.last_kept, Messages.underway_proper, Lost.lost_n, Lost.lost_own, Lost.lost_keeps}
use Rattle.histories.proofs.{Sending.sending_n, Sending.sending_own, Sending.sending_keeps, RecoveredViews.recovered_n, RecoveredStates.recovered_own_le}
use Rattle.histories.proofs.CheckpointedViews.{checkpointed_n, checkpointed_own, checkpointed_own_other, checkpointed_keeps_old}
use Rattle.histories.proofs.DeliveredViews.{delivered_n, delivered_own_forced, delivered_own_plain, delivered_own_other, delivered_keeps_old}
use Rattle.histories.proofs.Recovered.{recovered_keeps_old}

-- A step from r to s: as many processes, nothing comes back, and each process gets at most one checkpoint.
pub record Moved (r s : Ideal) : Type 0 where
  pub size : s.n ≡ r.n
  pub back : (p k : ℕ) → k < r.own p → keeps s p k ≡ true → keeps r p k ≡ true
  pub one : (p : ℕ) → (s.own p ≤ r.own p) ⊎ ((p < r.n) × (s.own p ≡ suc (r.own p)))

-- A checkpoint that the step stored is kept.
pub moved_new : (r s : Ideal) → Moved r s → Inv s → (p k : ℕ) → r.own p ≤ k → k < s.own p → keeps s p k ≡ true
moved_new r s w v p k old new = elim (w.one p) [
  | inl le ↦ absurd (omega arith)
  | inr z ↦ last_kept s v p k (omega (arith, z.0, w.size)) (omega (arith, z.1))
]

-- A checkpoint is such a step.
pub checkpointed_moved : (r : Ideal) (i : ℕ) → i < r.n → Moved r (checkpointed r i)
checkpointed_moved r i hi = record {
  size = checkpointed_n r i;
  back = checkpointed_keeps_old r i;
  one = λ p. by_eq p i
      (λ e. rw e (inr (hi, checkpointed_own r i)))
      (λ ne. inl (omega (arith, checkpointed_own_other r i p ne)));
}

-- A send is such a step.
pub sending_moved : (r : Ideal) (i j : ℕ) → Moved r (sending r i j)
sending_moved r i j = record {
  size = sending_n r i j;
  back = λ p k lt e. sym (sending_keeps r i j p k) ∙ e;
  one = λ p. inl (omega (arith, sending_own r i j p));
}

-- A loss is such a step.
pub lost_moved : (r : Ideal) (m : ℕ) → Moved r (lost r m)
lost_moved r m = record {
  size = lost_n r m;
  back = λ p k lt e. sym (lost_keeps r m p k) ∙ e;
  one = λ p. inl (omega (arith, lost_own r m p));
}

-- A delivery is such a step.
pub delivered_moved : (r : Ideal) → Inv r → (m : ℕ) → r.transit m ≡ true → Moved r (delivered r m)
delivered_moved r v m t =
    let hi : r.receiver m < r.n = (underway_proper r v m t).to in
    record {
      size = delivered_n r m;
      back = delivered_keeps_old r m hi;
      one = λ p. by_bool (forces r m)
          (λ e. by_eq p (r.receiver m)
          (λ c. rw c (inr (hi, delivered_own_forced r m e)))
          (λ nc. inl (omega (arith, delivered_own_other r m p nc))))
          (λ e. inl (omega (arith, delivered_own_plain r m e p)));
    }

-- A recovery is such a step.
pub recovered_moved : (r : Ideal) → Inv r → (F : Failed) → Moved r (recovered r F)
recovered_moved r v F = record {
  size = recovered_n r F;
  back = λ p k lt e. recovered_keeps_old r v F p k e;
  one = λ p. inl (recovered_own_le r v F p);
}
