-- How a delivery changes the run: one lemma for each view. Where no checkpoint is forced the delivery is `taken_in`, whose views are in TakenInViews.
use Rattle.std.specs.Prelude.{◌≡◌, ◌≤◌, ◌<◌}
use Rattle.laws.specs.Basics.{sym, ◌∙◌, ap, true, false, [], ℕ, suc, max, arith, by_bool, by_eq}
use Rattle.histories.proofs.Run.{Ideal, forces, checkpointed, taken_in, delivered, keeps}
use Rattle.histories.proofs.CheckpointedViews.{checkpointed_n, checkpointed_own, checkpointed_own_other, checkpointed_live, checkpointed_vector_other, checkpointed_transit, checkpointed_receiver, checkpointed_last, checkpointed_keeps_old}
use Rattle.histories.proofs.TakenInViews.{taken_in_n, taken_in_own, taken_in_live, taken_in_vector, taken_in_mark, taken_in_transit, taken_in_transit_other, taken_in_receiver, taken_in_last, taken_in_keeps_old}
use Rattle.histories.proofs.Delivered.{delivered_forced, delivered_plain}

module _ (r : Ideal) (m : ℕ) where
  -- The receiver.
  abbrev i : ℕ
  i = r.receiver m

  -- The state after the forced checkpoint.
  abbrev c : Ideal
  c = checkpointed r (r.receiver m)

  -- As many processes.
  pub delivered_n : (delivered r m).n ≡ r.n
  delivered_n = by_bool (forces r m)
      (λ e. rw (delivered_forced r m e) (taken_in_n c m ∙ checkpointed_n r i))
      (λ e. rw (delivered_plain r m e) (taken_in_n r m))

  -- Own entries: one more at the receiver where a checkpoint is forced.
  pub delivered_own_forced : forces r m ≡ true → (delivered r m).own (r.receiver m) ≡ suc (r.own (r.receiver m))
  delivered_own_forced e = rw (delivered_forced r m e) (taken_in_own c m i ∙ checkpointed_own r i)

  -- Where none is forced, own entries stay.
  pub delivered_own_plain : forces r m ≡ false → (p : ℕ) → (delivered r m).own p ≡ r.own p
  delivered_own_plain e p = rw (delivered_plain r m e) (taken_in_own r m p)

  -- Own entries of others stay.
  pub delivered_own_other : (p : ℕ) → (p ≡ r.receiver m → ⊥) → (delivered r m).own p ≡ r.own p
  delivered_own_other p ne = by_bool (forces r m)
      (λ e. rw (delivered_forced r m e) (taken_in_own c m p ∙ checkpointed_own_other r i p ne))
      (λ e. delivered_own_plain e p)

  -- No own entry falls.
  pub delivered_own_le : (p : ℕ) → r.own p ≤ (delivered r m).own p
  delivered_own_le p = by_eq p i
      (λ d. rw d (by_bool (forces r m)
      (λ e. omega (arith, delivered_own_forced e))
      (λ e. omega (arith, delivered_own_plain e i))))
      (λ nd. omega (arith, delivered_own_other p nd))

  -- What a forced delivery takes in goes into the new live state.
  forced_live : (f : ℕ) → (taken_in c m).vector i (c.own i) f ≡ max (c.vector i (c.own i) f) (r.carried m f)
  unfolding checkpointed
  forced_live f = taken_in_live c m f

  -- The new live state of a forced delivery, by the state before it.
  forced_top : (f : ℕ) → (f ≡ i → ⊥) → (taken_in c m).vector i (suc (r.own i)) f ≡ max (r.vector i (r.own i) f) (r.carried m f)
  forced_top f nf =
      let a : c.own i ≡ suc (r.own i) = checkpointed_own r i in
      let b : c.vector i (suc (r.own i)) f ≡ r.vector i (r.own i) f = checkpointed_live r i f nf in
      ap (λ k. (taken_in c m).vector i k f) (sym a) ∙ forced_live f ∙ ap (λ k. max (c.vector i k f) (r.carried m f)) a ∙ ap (λ x. max x (r.carried m f)) b

  -- The live vector of the receiver: the greater of the two at each entry of another process. (Its own entry is its own interval, by the invariant.)
  pub delivered_row : (f : ℕ) → (f ≡ r.receiver m → ⊥)
      → (delivered r m).vector (r.receiver m) ((delivered r m).own (r.receiver m)) f ≡ max (r.vector (r.receiver m) (r.own (r.receiver m)) f) (r.carried m f)
  delivered_row f nf = by_bool (forces r m)
      (λ e. rw (delivered_own_forced e) (rw (delivered_forced r m e) (forced_top f nf)))
      (λ e. rw (delivered_own_plain e i) (rw (delivered_plain r m e) (taken_in_live r m f)))

  -- Taking in changes the new live state alone.
  forced_vector : (p k f : ℕ) → (p ≡ i → k ≡ suc (r.own i) → ⊥) → (taken_in c m).vector p k f ≡ c.vector p k f
  unfolding checkpointed
  forced_vector p k f not-it = taken_in_vector c m p k f (λ a b. not-it a (b ∙ checkpointed_own r i))

  -- All states of others are as they were.
  pub delivered_vector_other : (p k f : ℕ) → (p ≡ r.receiver m → ⊥) → (delivered r m).vector p k f ≡ r.vector p k f
  delivered_vector_other p k f ne = by_bool (forces r m)
      (λ e. rw (delivered_forced r m e) (forced_vector p k f (λ a b. ne a) ∙ checkpointed_vector_other r i p k f ne))
      (λ e. rw (delivered_plain r m e) (taken_in_vector r m p k f (λ a b. ne a)))

  -- So are their live vectors.
  pub delivered_row_other : (p f : ℕ) → (p ≡ r.receiver m → ⊥) → (delivered r m).vector p ((delivered r m).own p) f ≡ r.vector p (r.own p) f
  delivered_row_other p f ne = rw (delivered_own_other p ne) (delivered_vector_other p (r.own p) f ne)

  -- Where none is forced, marks stay.
  pub delivered_mark_plain : forces r m ≡ false → (p : ℕ) → (delivered r m).mark p ≡ r.mark p
  delivered_mark_plain e p = rw (delivered_plain r m e) (taken_in_mark r m p)

  -- The message is no longer under way; nothing else changes about messages.
  pub delivered_transit : (delivered r m).transit m ≡ false
  delivered_transit = by_bool (forces r m)
      (λ e. rw (delivered_forced r m e) (taken_in_transit c m))
      (λ e. rw (delivered_plain r m e) (taken_in_transit r m))

  -- Other messages are under way as they were.
  pub delivered_transit_other : (x : ℕ) → (x ≡ m → ⊥) → (delivered r m).transit x ≡ r.transit x
  delivered_transit_other x ne = by_bool (forces r m)
      (λ e. rw (delivered_forced r m e) (taken_in_transit_other c m x ne ∙ checkpointed_transit r i x))
      (λ e. rw (delivered_plain r m e) (taken_in_transit_other r m x ne))

  -- Receivers stay.
  pub delivered_receiver : (x : ℕ) → (delivered r m).receiver x ≡ r.receiver x
  delivered_receiver x = by_bool (forces r m)
      (λ e. rw (delivered_forced r m e) (taken_in_receiver c m x ∙ checkpointed_receiver r i x))
      (λ e. rw (delivered_plain r m e) (taken_in_receiver r m x))

  -- The last used number stays.
  pub delivered_last : (delivered r m).last ≡ r.last
  delivered_last = by_bool (forces r m)
      (λ e. rw (delivered_forced r m e) (taken_in_last c m ∙ checkpointed_last r i))
      (λ e. rw (delivered_plain r m e) (taken_in_last r m))

  -- The receiver is in the run after the checkpoint too.
  forced_in : r.receiver m < r.n → c.receiver m < c.n
  unfolding checkpointed
  forced_in hi = hi

  -- Nothing that was not kept comes back.
  pub delivered_keeps_old : r.receiver m < r.n → (p k : ℕ) → k < r.own p → keeps (delivered r m) p k ≡ true → keeps r p k ≡ true
  delivered_keeps_old hi p k lt = by_bool (forces r m)
      (λ e. rw (delivered_forced r m e) λ q. checkpointed_keeps_old r i p k lt (taken_in_keeps_old c m (forced_in hi) p k q))
      (λ e. rw (delivered_plain r m e) λ q. taken_in_keeps_old r m hi p k q)
