-- How a recovery changes the run: one lemma for each view.
use Rattle.std.specs.Prelude.{◌≡◌, ◌&&◌, ◌≤◌}
use Rattle.laws.specs.Basics.{refl, true, false, None, ℕ, suc, arith, ltb, eq-eqb, ne_eqb, leb-true, by_bool}
use Rattle.laws.specs.{Search.latest, Truth.and_left, Truth.and_right, Update.upds}
use Rattle.histories.specs.History.{up_to}
use Rattle.histories.proofs.Run.{Ideal, Failed, keeps, line, rolled, own_after, vector_after, pin_after, outlives, recovered}

module _ (r : Ideal) (F : Failed) where
  -- As many processes.
  pub recovered_n : (recovered r F).n ≡ r.n
  unfolding recovered
  recovered_n = refl

  -- Own entries: of a process that rolls back, one more than its member.
  pub recovered_own_back : (p : ℕ) → rolled r F p ≡ true → (recovered r F).own p ≡ suc (line r F p)
  unfolding recovered own_after
  recovered_own_back p e = rw e

  -- Own entries of those that stay.
  pub recovered_own_stays : (p : ℕ) → rolled r F p ≡ false → (recovered r F).own p ≡ r.own p
  unfolding recovered own_after
  recovered_own_stays p e = rw e

  -- The new live state of a process that rolls back: its member's vector, with one added to its own entry.
  pub recovered_live_own : (p : ℕ) → rolled r F p ≡ true → (recovered r F).vector p (suc (line r F p)) p ≡ suc (line r F p)
  unfolding recovered vector_after
  recovered_live_own p e = rw e (simp upds)

  -- Its other entries.
  pub recovered_live : (p f : ℕ) → rolled r F p ≡ true → (f ≡ p → ⊥) → (recovered r F).vector p (suc (line r F p)) f ≡ r.vector p (line r F p) f
  unfolding recovered vector_after
  recovered_live p f e ne = rw e (simp upds)

  -- States up to the member are as they were, and so are all of a process that stays.
  pub recovered_vector : (p k f : ℕ) → k ≤ line r F p → (recovered r F).vector p k f ≡ r.vector p k f
  unfolding recovered vector_after
  recovered_vector p k f le = by_bool (rolled r F p)
      (λ e. let ne : k ≡ suc (line r F p) → ⊥ = omega arith in rw e (simp upds))
      (λ e. rw e)

  -- A process that rolls back loses its mark.
  pub recovered_mark_back : (p : ℕ) → rolled r F p ≡ true → (recovered r F).mark p ≡ false
  unfolding recovered
  recovered_mark_back p e = rw e

  -- Other marks stay.
  pub recovered_mark_stays : (p : ℕ) → rolled r F p ≡ false → (recovered r F).mark p ≡ r.mark p
  unfolding recovered
  recovered_mark_stays p e = rw e

  -- A pin whose entry is not the current own entry becomes none.
  pub recovered_pin_none : (p f : ℕ) → ((recovered r F).vector p ((recovered r F).own p) f ≡ (recovered r F).own f → ⊥) → (recovered r F).pin p f ≡ None
  unfolding recovered pin_after
  recovered_pin_none p f ne = rw (ne_eqb (vector_after r F p (own_after r F p) f) (own_after r F f) ne)

  -- Another pin stays in a process that stays; in one that rolls back it names the latest kept checkpoint up to the member whose entry is below.
  pub recovered_pin_stays : (p f : ℕ) → rolled r F p ≡ false → (recovered r F).vector p ((recovered r F).own p) f ≡ (recovered r F).own f → (recovered r F).pin p f ≡ r.pin p f
  unfolding recovered pin_after
  recovered_pin_stays p f e d = rw (eq-eqb (vector_after r F p (own_after r F p) f) (own_after r F f) d) (rw e)

  -- The pin of a current entry in a process that rolls back.
  pub recovered_pin_back : (p f : ℕ) → rolled r F p ≡ true → (recovered r F).vector p ((recovered r F).own p) f ≡ (recovered r F).own f
      → (recovered r F).pin p f ≡ latest (suc (line r F p)) (λ k. keeps r p k && ltb (r.vector p k f) ((recovered r F).own f))
  unfolding recovered pin_after
  recovered_pin_back p f e d = rw (eq-eqb (vector_after r F p (own_after r F p) f) (own_after r F f) d) (rw e)

  -- A message under way was under way, and was sent up to its sender's member; nothing else changes about messages.
  pub recovered_transit : (m : ℕ) → (recovered r F).transit m ≡ true → (r.transit m ≡ true) × (r.carried m (r.sender m) ≤ line r F (r.sender m))
  unfolding recovered outlives
  recovered_transit m e = (and_left (r.transit m) _ e, leb-true _ _ (and_right (r.transit m) _ e))

  -- What messages carry stays.
  pub recovered_carried : (m f : ℕ) → (recovered r F).carried m f ≡ r.carried m f
  unfolding recovered
  recovered_carried m f = refl

  -- The surviving history: up to the member of a process that rolls back, all of the others.
  pub recovered_events_back : (p : ℕ) → rolled r F p ≡ true → (recovered r F).events p ≡ up_to (line r F p) (r.events p)
  unfolding recovered
  recovered_events_back p e = rw e

  -- All events of a process that stays.
  pub recovered_events_stays : (p : ℕ) → rolled r F p ≡ false → (recovered r F).events p ≡ r.events p
  unfolding recovered
  recovered_events_stays p e = rw e
