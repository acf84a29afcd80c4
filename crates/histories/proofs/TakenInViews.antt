-- How taking in a message changes the run: one lemma for each view, and what it does to kept checkpoints and to the lists.
use Rattle.std.specs.Prelude.{◌≡◌, ◌∷◌, ◌++◌, ◌⊎◌, ◌≤◌, ◌<◌}
use Rattle.laws.specs.Basics.{refl, sym, ◌∙◌, true, false, [], Some, inl, inr, ℕ, max, arith, leb, lt-ltb, le-ltb, leb-true, leb-false, by_bool, by_eq}
use Rattle.laws.specs.Update.{upds}
use Rattle.histories.specs.History.{HistoryEvent, sent, received, checkpoints}
use Rattle.histories.proofs.Places.{Stands, stands_still, stands_end, sent_before_received, received_or_before, checkpoints_received}
use Rattle.histories.proofs.{Run.Ideal, Run.taken_by, Run.taken_in, Run.keeps, Rule.keeps_in, Rule.keeps_out}

module _ (r : Ideal) (m : ℕ) where
  -- The receiver.
  abbrev i : ℕ
  i = r.receiver m

  -- As many processes.
  pub taken_in_n : (taken_in r m).n ≡ r.n
  unfolding taken_in taken_by
  taken_in_n = refl

  -- Own entries stay.
  pub taken_in_own : (p : ℕ) → (taken_in r m).own p ≡ r.own p
  unfolding taken_in taken_by
  taken_in_own p = refl

  -- The live vector of the receiver: the greater of the two at each entry.
  pub taken_in_live : (f : ℕ) → (taken_in r m).vector (r.receiver m) (r.own (r.receiver m)) f ≡ max (r.vector (r.receiver m) (r.own (r.receiver m)) f) (r.carried m f)
  unfolding taken_in taken_by
  taken_in_live f = simp upds

  -- Every other state is as it was.
  pub taken_in_vector : (p k f : ℕ) → (p ≡ r.receiver m → k ≡ r.own (r.receiver m) → ⊥) → (taken_in r m).vector p k f ≡ r.vector p k f
  unfolding taken_in taken_by
  taken_in_vector p k f not-it = by_eq p i
      (λ e. let ne : k ≡ r.own i → ⊥ = not-it e in rw e (simp upds))
      (λ ne. simp upds)

  -- The live vectors.
  pub taken_in_row : (f : ℕ) → (taken_in r m).vector (r.receiver m) ((taken_in r m).own (r.receiver m)) f ≡ max (r.vector (r.receiver m) (r.own (r.receiver m)) f) (r.carried m f)
  taken_in_row f = rw (taken_in_own i) (taken_in_live f)

  -- Live vectors of others stay.
  pub taken_in_row_other : (p f : ℕ) → (p ≡ r.receiver m → ⊥) → (taken_in r m).vector p ((taken_in r m).own p) f ≡ r.vector p (r.own p) f
  taken_in_row_other p f ne = rw (taken_in_own p) (taken_in_vector p (r.own p) f (λ a b. ne a))

  -- Marks stay.
  pub taken_in_mark : (p : ℕ) → (taken_in r m).mark p ≡ r.mark p
  unfolding taken_in taken_by
  taken_in_mark p = refl

  -- The pin of an entry that rises becomes the own pin, other pins stay.
  pub taken_in_pin_risen : (f : ℕ) → r.vector (r.receiver m) (r.own (r.receiver m)) f < r.carried m f → (taken_in r m).pin (r.receiver m) f ≡ r.pin (r.receiver m) (r.receiver m)
  unfolding taken_in taken_by
  taken_in_pin_risen f lt = simp upds (rw (lt-ltb (r.vector i (r.own i) f) (r.carried m f) lt))

  -- The pin of an entry that does not rise stays.
  pub taken_in_pin_same : (f : ℕ) → r.carried m f ≤ r.vector (r.receiver m) (r.own (r.receiver m)) f → (taken_in r m).pin (r.receiver m) f ≡ r.pin (r.receiver m) f
  unfolding taken_in taken_by
  taken_in_pin_same f le = simp upds (rw (le-ltb (r.vector i (r.own i) f) (r.carried m f) le))

  -- Pins of others stay.
  pub taken_in_pin_other : (p f : ℕ) → (p ≡ r.receiver m → ⊥) → (taken_in r m).pin p f ≡ r.pin p f
  unfolding taken_in taken_by
  taken_in_pin_other p f ne = simp upds

  -- The message is no longer under way.
  pub taken_in_transit : (taken_in r m).transit m ≡ false
  unfolding taken_in taken_by
  taken_in_transit = simp upds

  -- Other messages are under way as they were.
  pub taken_in_transit_other : (x : ℕ) → (x ≡ m → ⊥) → (taken_in r m).transit x ≡ r.transit x
  unfolding taken_in taken_by
  taken_in_transit_other x ne = simp upds

  -- What messages carry stays.
  pub taken_in_carried : (x f : ℕ) → (taken_in r m).carried x f ≡ r.carried x f
  unfolding taken_in taken_by
  taken_in_carried x f = refl

  -- Receivers stay.
  pub taken_in_receiver : (x : ℕ) → (taken_in r m).receiver x ≡ r.receiver x
  unfolding taken_in taken_by
  taken_in_receiver x = refl

  -- The last used number stays.
  pub taken_in_last : (taken_in r m).last ≡ r.last
  unfolding taken_in taken_by
  taken_in_last = refl

  -- The receiver's list gets the receipt.
  pub taken_in_events : (taken_in r m).events (r.receiver m) ≡ r.events (r.receiver m) ++ (received m ∷ [])
  unfolding taken_in taken_by
  taken_in_events = simp upds

  -- Other lists stay.
  pub taken_in_events_other : (p : ℕ) → (p ≡ r.receiver m → ⊥) → (taken_in r m).events p ≡ r.events p
  unfolding taken_in taken_by
  taken_in_events_other p ne = simp upds

  -- A pin of now names what a pin of before names.
  pin_before : (p f k : ℕ) → r.receiver m < r.n → f < r.n → (taken_in r m).pin p f ≡ Some k → keeps r p k ≡ true
  pin_before p f k hi hf e = by_eq p i
      (λ c. by_bool (leb (r.carried m f) (r.vector i (r.own i) f))
      (λ b. rw c (keeps_in r i f k hf (sym (taken_in_pin_same f (leb-true _ _ b)) ∙ (rw c at e))))
      (λ b. rw c (keeps_in r i i k hi (sym (taken_in_pin_risen f (leb-false _ _ b)) ∙ (rw c at e)))))
      (λ nc. keeps_in r p f k hf (sym (taken_in_pin_other p f nc) ∙ e))

  -- What is kept now was kept: nothing comes back.
  pub taken_in_keeps_old : r.receiver m < r.n → (p k : ℕ) → keeps (taken_in r m) p k ≡ true → keeps r p k ≡ true
  taken_in_keeps_old hi p k e =
      let w = keeps_out (taken_in r m) p k e in
      pin_before p w.0 k hi (omega (arith, w.1, taken_in_n)) w.2

  -- A state of now: the live one of the receiver, or one that is as it was.
  pub taken_in_state : (p k : ℕ) → ((p ≡ r.receiver m) × (k ≡ r.own (r.receiver m))) ⊎ ((f : ℕ) → (taken_in r m).vector p k f ≡ r.vector p k f)
  taken_in_state p k = by_eq p i
      (λ e. by_eq k (r.own i) (λ q. inl (e, q)) (λ nq. inr (λ f. taken_in_vector p k f (λ a b. nq b))))
      (λ ne. inr (λ f. taken_in_vector p k f (λ a b. ne a)))

  -- What stood in a list stands there still; sends of now stood there before; a receipt of now is the new one or stood there before.
  pub taken_in_still : {e : HistoryEvent} {g : ℕ} (q : ℕ) → Stands e g (r.events q) → Stands e g ((taken_in r m).events q)
  taken_in_still q s = by_eq q i
      (λ e. rw e (rw taken_in_events (stands_still (r.events i) _ (rw e at s))))
      (λ ne. rw (taken_in_events_other q ne) s)

  -- A send of now stood there before.
  pub taken_in_sent : (p g x : ℕ) → Stands (sent x) g ((taken_in r m).events p) → Stands (sent x) g (r.events p)
  taken_in_sent p g x s = by_eq p i
      (λ e. rw e (sent_before_received (r.events i) m (rw taken_in_events at (rw e at s))))
      (λ ne. rw (taken_in_events_other p ne) at s)

  -- A receipt of now is the new one, or stood there before.
  pub taken_in_received : (p g x : ℕ) → Stands (received x) g ((taken_in r m).events p)
      → ((p ≡ r.receiver m) × (x ≡ m) × (g ≡ checkpoints (r.events (r.receiver m)))) ⊎ Stands (received x) g (r.events p)
  taken_in_received p g x s = by_eq p i
      (λ e. elim (received_or_before (r.events i) m (rw taken_in_events at (rw e at s))) [
        | inl w ↦ inl (e, w.0, w.1)
        | inr o ↦ inr (rw e o)
      ])
      (λ ne. inr (rw (taken_in_events_other p ne) at s))

  -- The lists have as many checkpoints.
  pub taken_in_checkpoints : (p : ℕ) → checkpoints ((taken_in r m).events p) ≡ checkpoints (r.events p)
  taken_in_checkpoints p = by_eq p i
      (λ e. rw e (rw taken_in_events (checkpoints_received (r.events i) m)))
      (λ ne. rw (taken_in_events_other p ne))

  -- The receipt stands in the live interval.
  pub taken_in_new : (g : ℕ) → g ≡ checkpoints (r.events (r.receiver m)) → Stands (received m) g ((taken_in r m).events (r.receiver m))
  taken_in_new g e = rw taken_in_events (stands_end (r.events i) e)
