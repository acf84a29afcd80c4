-- A delivery keeps the invariant: the forced checkpoint, where there is one, and then the message is taken in.
use Rattle.std.specs.Prelude.{◌≡◌, ◌≤◌, ◌<◌}
use Rattle.laws.specs.Basics.{◌∙◌, true, false, ℕ, lt-ltb, ltb-true, ltb-false, by_bool}
use Rattle.laws.specs.{Search.any_out, Search.any_in, Search.any_none, Truth.never_both, Truth.and_left, Truth.and_right, Truth.and_both}
use Rattle.histories.proofs.{Run.Ideal, Run.newer, Run.forces, Run.checkpointed, Run.taken_in, Run.delivered, Invariant.Inv, TakenIn.taken_in_inv}
use Rattle.histories.proofs.{CheckpointedViews.checkpointed_mark, CheckpointedViews.checkpointed_transit, Checkpointed.checkpointed_inv}

module _ (r : Ideal) (m : ℕ) where
  -- What a delivery that forces a checkpoint finds, and when it is forced.
  pub forces_out : forces r m ≡ true → (r.mark (r.receiver m) ≡ true) × (f : ℕ) × (f < r.n) × (r.vector (r.receiver m) (r.own (r.receiver m)) f < r.carried m f)
  unfolding forces newer
  forces_out e =
      let w = any_out r.n _ (and_right (r.mark (r.receiver m)) _ e) in
      (and_left (r.mark (r.receiver m)) _ e, w.0, w.1, ltb-true _ _ w.2)

  -- A set mark and a newer entry force a checkpoint.
  pub forces_in : (f : ℕ) → f < r.n → r.mark (r.receiver m) ≡ true → r.vector (r.receiver m) (r.own (r.receiver m)) f < r.carried m f → forces r m ≡ true
  unfolding forces newer
  forces_in f hf t lt = and_both (r.mark (r.receiver m)) _ t (any_in r.n _ f hf (lt-ltb (r.vector (r.receiver m) (r.own (r.receiver m)) f) (r.carried m f) lt))

  -- Where no checkpoint is forced and the mark is set, nothing that is carried is newer.
  pub unforced : forces r m ≡ false → r.mark (r.receiver m) ≡ true → (f : ℕ) → f < r.n → r.carried m f ≤ r.vector (r.receiver m) (r.own (r.receiver m)) f
  unfolding forces newer
  unforced e t f hf = ltb-false _ _ (any_none r.n _ (rw t at e) f hf)

  -- A delivery is one of two steps.
  pub delivered_forced : forces r m ≡ true → delivered r m ≡ taken_in (checkpointed r (r.receiver m)) m
  unfolding delivered
  delivered_forced e = rw e

  -- Where none is forced.
  pub delivered_plain : forces r m ≡ false → delivered r m ≡ taken_in r m
  unfolding delivered
  delivered_plain e = rw e

  -- After the forced checkpoint the mark is clear.
  cleared : (checkpointed r (r.receiver m)).mark ((checkpointed r (r.receiver m)).receiver m) ≡ true → ⊥
  unfolding checkpointed
  cleared t = never_both ((checkpointed r (r.receiver m)).mark (r.receiver m)) t (checkpointed_mark r (r.receiver m))

  -- A delivery keeps the invariant.
  pub delivered_inv : Inv r → r.transit m ≡ true → Inv (delivered r m)
  delivered_inv v t = by_bool (forces r m)
      (λ e. rw (delivered_forced e) (taken_in_inv (checkpointed r (r.receiver m)) (checkpointed_inv r (r.receiver m) v) m
      (checkpointed_transit r (r.receiver m) m ∙ t) (λ b. absurd (cleared b))))
      (λ e. rw (delivered_plain e) (taken_in_inv r v m t (unforced e)))
