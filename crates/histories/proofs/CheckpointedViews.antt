-- How a checkpoint changes the run: one lemma for each view, and what it does to kept checkpoints and to the lists.
use Rattle.std.specs.Prelude.{◌≡◌, ◌∷◌, ◌++◌, ◌⊎◌, ◌≤◌, ◌<◌}
use Rattle.laws.specs.Basics.{refl, sym, ◌∙◌, ap, true, false, [], Some, inl, inr, ℕ, suc, arith, by_eq}
use Rattle.laws.specs.{Options.some_same, Update.upds}
use Rattle.histories.specs.History.{HistoryEvent, stored, sent, received}
use Rattle.histories.proofs.Places.{Stands, stands_still, sent_before_stored, received_before_stored}
use Rattle.histories.proofs.{Run.Ideal, Run.checkpointed, Run.keeps, Rule.keeps_in, Rule.keeps_out}

module _ (r : Ideal) (i : ℕ) where
  -- Views of the checkpoint.
  pub checkpointed_n : (checkpointed r i).n ≡ r.n
  unfolding checkpointed
  checkpointed_n = refl

  -- The own entry of i is one more.
  pub checkpointed_own : (checkpointed r i).own i ≡ suc (r.own i)
  unfolding checkpointed
  checkpointed_own = simp upds

  -- Other own entries stay.
  pub checkpointed_own_other : (p : ℕ) → (p ≡ i → ⊥) → (checkpointed r i).own p ≡ r.own p
  unfolding checkpointed
  checkpointed_own_other p ne = simp upds

  -- The new live state: the own entry is one more, the others are as they were.
  pub checkpointed_live_own : (checkpointed r i).vector i (suc (r.own i)) i ≡ suc (r.own i)
  unfolding checkpointed
  checkpointed_live_own = simp upds

  -- Other entries of the new live state.
  pub checkpointed_live : (f : ℕ) → (f ≡ i → ⊥) → (checkpointed r i).vector i (suc (r.own i)) f ≡ r.vector i (r.own i) f
  unfolding checkpointed
  checkpointed_live f ne = simp upds

  -- All states of before are as they were.
  pub checkpointed_vector_other : (p k f : ℕ) → (p ≡ i → ⊥) → (checkpointed r i).vector p k f ≡ r.vector p k f
  unfolding checkpointed
  checkpointed_vector_other p k f ne = simp upds

  -- So are the states of i up to the one just stored.
  pub checkpointed_vector : (p k f : ℕ) → k ≤ r.own p → (checkpointed r i).vector p k f ≡ r.vector p k f
  unfolding checkpointed
  checkpointed_vector p k f le = by_eq p i
      (λ e. let ne : k ≡ suc (r.own i) → ⊥ = omega (arith, rw e at le) in rw e (simp upds))
      (λ ne. simp upds)

  -- The live vectors: the own entry of i is one more, all others are as they were.
  pub checkpointed_row_own : (checkpointed r i).vector i ((checkpointed r i).own i) i ≡ suc (r.own i)
  checkpointed_row_own = rw checkpointed_own checkpointed_live_own

  -- Live vectors of others.
  pub checkpointed_row_other : (p f : ℕ) → (p ≡ i → ⊥) → (checkpointed r i).vector p ((checkpointed r i).own p) f ≡ r.vector p (r.own p) f
  checkpointed_row_other p f ne = rw (checkpointed_own_other p ne) (checkpointed_vector p (r.own p) f (omega arith))

  -- Live entries for others.
  pub checkpointed_row : (p f : ℕ) → (f ≡ i → ⊥) → (checkpointed r i).vector p ((checkpointed r i).own p) f ≡ r.vector p (r.own p) f
  checkpointed_row p f nf = by_eq p i
      (λ e. rw e (rw checkpointed_own (checkpointed_live f nf)))
      (λ ne. checkpointed_row_other p f ne)

  -- The sent mark of i is cleared.
  pub checkpointed_mark : (checkpointed r i).mark i ≡ false
  unfolding checkpointed
  checkpointed_mark = simp upds

  -- Other marks stay.
  pub checkpointed_mark_other : (p : ℕ) → (p ≡ i → ⊥) → (checkpointed r i).mark p ≡ r.mark p
  unfolding checkpointed
  checkpointed_mark_other p ne = simp upds

  -- The own pin of i names the checkpoint just stored.
  pub checkpointed_pin : (checkpointed r i).pin i i ≡ Some (r.own i)
  unfolding checkpointed
  checkpointed_pin = simp upds

  -- Pins of others stay.
  pub checkpointed_pin_row : (p f : ℕ) → (p ≡ i → ⊥) → (checkpointed r i).pin p f ≡ r.pin p f
  unfolding checkpointed
  checkpointed_pin_row p f ne = simp upds

  -- Pins for others stay.
  pub checkpointed_pin_column : (p f : ℕ) → (f ≡ i → ⊥) → (checkpointed r i).pin p f ≡ r.pin p f
  unfolding checkpointed
  checkpointed_pin_column p f ne = by_eq p i (λ e. rw e (simp upds)) (λ np. simp upds)

  -- Messages are as they were: under way,
  pub checkpointed_transit : (m : ℕ) → (checkpointed r i).transit m ≡ r.transit m
  unfolding checkpointed
  checkpointed_transit m = refl

  -- what they carry,
  pub checkpointed_carried : (m f : ℕ) → (checkpointed r i).carried m f ≡ r.carried m f
  unfolding checkpointed
  checkpointed_carried m f = refl

  -- their receivers,
  pub checkpointed_receiver : (m : ℕ) → (checkpointed r i).receiver m ≡ r.receiver m
  unfolding checkpointed
  checkpointed_receiver m = refl

  -- and the last used number.
  pub checkpointed_last : (checkpointed r i).last ≡ r.last
  unfolding checkpointed
  checkpointed_last = refl

  -- The list of i gets the checkpoint.
  pub checkpointed_events : (checkpointed r i).events i ≡ r.events i ++ (stored ∷ [])
  unfolding checkpointed
  checkpointed_events = simp upds

  -- Other lists stay.
  pub checkpointed_events_other : (p : ℕ) → (p ≡ i → ⊥) → (checkpointed r i).events p ≡ r.events p
  unfolding checkpointed
  checkpointed_events_other p ne = simp upds

  -- No own entry falls.
  pub checkpointed_own_le : (p : ℕ) → r.own p ≤ (checkpointed r i).own p
  checkpointed_own_le p = by_eq p i
      (λ e. rw e (omega (arith, checkpointed_own)))
      (λ ne. omega (arith, checkpointed_own_other p ne))

  -- A state of now: one of before, or the new live one of i.
  pub checkpointed_state : (p k : ℕ) → k ≤ (checkpointed r i).own p → (k ≤ r.own p) ⊎ ((p ≡ i) × (k ≡ suc (r.own i)))
  checkpointed_state p k le = by_eq p i
      (λ e. by_eq k (suc (r.own i))
      (λ q. inr (e, q))
      (λ nq. inl (omega (arith, ap (checkpointed r i).own e, ap r.own e, checkpointed_own))))
      (λ ne. inl (omega (arith, checkpointed_own_other p ne)))

  -- What is kept now was kept, or is the new checkpoint.
  pub checkpointed_keeps : (p k : ℕ) → keeps (checkpointed r i) p k ≡ true → ((p ≡ i) × (k ≡ r.own i)) ⊎ (keeps r p k ≡ true)
  checkpointed_keeps p k e =
      let w = keeps_out (checkpointed r i) p k e in
      let hf : w.0 < r.n = omega (arith, w.1, checkpointed_n) in
      by_eq w.0 i
      (λ c. by_eq p i
      (λ d. inl (d, some_same (sym (rw d at (rw c at w.2)) ∙ checkpointed_pin)))
      (λ nd. inr (keeps_in r p w.0 k hf (sym (checkpointed_pin_row p w.0 nd) ∙ w.2))))
      (λ nc. inr (keeps_in r p w.0 k hf (sym (checkpointed_pin_column p w.0 nc) ∙ w.2)))

  -- Nothing comes back.
  pub checkpointed_keeps_old : (p k : ℕ) → k < r.own p → keeps (checkpointed r i) p k ≡ true → keeps r p k ≡ true
  checkpointed_keeps_old p k lt e = elim (checkpointed_keeps p k e) [
    | inl w ↦ absurd (omega (arith, lt, w.1, ap r.own w.0))
    | inr q ↦ q
  ]

  -- The checkpoint just stored is kept.
  pub checkpointed_keeps_new : i < r.n → keeps (checkpointed r i) i (r.own i) ≡ true
  checkpointed_keeps_new hi = keeps_in (checkpointed r i) i i (r.own i) (omega (arith, hi, checkpointed_n)) checkpointed_pin

  -- What stood in a list stands there still; sends and receipts of now stood there before.
  pub checkpointed_still : {e : HistoryEvent} {g : ℕ} (q : ℕ) → Stands e g (r.events q) → Stands e g ((checkpointed r i).events q)
  checkpointed_still q s = by_eq q i
      (λ e. rw e (rw checkpointed_events (stands_still (r.events i) _ (rw e at s))))
      (λ ne. rw (checkpointed_events_other q ne) s)

  -- A send of now stood there before.
  pub checkpointed_sent : (p g m : ℕ) → Stands (sent m) g ((checkpointed r i).events p) → Stands (sent m) g (r.events p)
  checkpointed_sent p g m s = by_eq p i
      (λ e. rw e (sent_before_stored (r.events i) (rw checkpointed_events at (rw e at s))))
      (λ ne. rw (checkpointed_events_other p ne) at s)

  -- A receipt of now stood there before.
  pub checkpointed_received : (p g m : ℕ) → Stands (received m) g ((checkpointed r i).events p) → Stands (received m) g (r.events p)
  checkpointed_received p g m s = by_eq p i
      (λ e. rw e (received_before_stored (r.events i) (rw checkpointed_events at (rw e at s))))
      (λ ne. rw (checkpointed_events_other p ne) at s)
