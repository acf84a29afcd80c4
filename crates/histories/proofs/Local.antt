-- One process's part of the run as functions, and what its own events make of it: a checkpoint, a send, a receipt of a carried vector.
-- Nothing else in the run matters to it.
use Rattle.std.specs.Prelude.{◌≡◌, ◌&&◌}
use Rattle.laws.specs.Basics.{refl, sym, ◌∙◌, ap, Bool, true, false, Option, Some, ℕ, suc, max, ltb, pick, by_bool}
use Rattle.laws.specs.{Search.any_below, Update.upd, Update.upd_same, Update.upd_other}
use Rattle.histories.proofs.Run.{Ideal, checkpointed, sending, newer, forces, taken_by, taken_in, delivered, lost}

pub record Local : Type 0 where
  pub own : ℕ
  pub vector : ℕ → ℕ → ℕ
  pub mark : Bool
  pub pin : ℕ → Option ℕ

-- The part of process p.
unfoldable pub local_of : Ideal → ℕ → Local
local_of r p = record { own = r.own p; vector = r.vector p; mark = r.mark p; pin = r.pin p }

-- The live vector.
abbrev pub live_of : Local → ℕ → ℕ
live_of P = P.vector P.own

-- A checkpoint at process i.
unfoldable pub took_at : ℕ → Local → Local
took_at i P = record {
  own = suc P.own;
  vector = upd P.vector (suc P.own) (upd (P.vector P.own) i (suc P.own));
  mark = false;
  pin = upd P.pin i (Some P.own);
}

-- A send.
unfoldable pub sent_at : Local → Local
sent_at P = record { own = P.own; vector = P.vector; mark = true; pin = P.pin }

-- A receipt at process i of n, with the carried vector c.
unfoldable pub forces_at : ℕ → (ℕ → ℕ) → Local → Bool
forces_at n c P = P.mark && any_below n (λ f. ltb (P.vector P.own f) (c f))

unfoldable pub taken_at : ℕ → (ℕ → ℕ) → Local → Local
taken_at i c P = record {
  own = P.own;
  vector = upd P.vector P.own (λ f. max (P.vector P.own f) (c f));
  mark = P.mark;
  pin = λ f. pick (ltb (P.vector P.own f) (c f)) (P.pin i) (P.pin f);
}

unfoldable pub got_at : ℕ → ℕ → (ℕ → ℕ) → Local → Local
got_at n i c P = taken_at i c (pick (forces_at n c P) (took_at i P) P)

-- Parts are the same if their fields are.
pub local_eq : (P Q : Local) → P.own ≡ Q.own → P.vector ≡ Q.vector → P.mark ≡ Q.mark → P.pin ≡ Q.pin → P ≡ Q
local_eq P Q a b c d = λ j. record { own = a j; vector = b j; mark = c j; pin = d j }

module _ (r : Ideal) where
  -- Checkpoint at i.
  pub local_took : (i : ℕ) → local_of (checkpointed r i) i ≡ took_at i (local_of r i)
  unfolding local_of took_at checkpointed
  local_took i = local_eq _ _
      (upd_same r.own i (suc (r.own i)))
      (upd_same r.vector i _)
      (upd_same r.mark i false)
      (upd_same r.pin i _)

  pub local_took_other : (i p : ℕ) → (p ≡ i → ⊥) → local_of (checkpointed r i) p ≡ local_of r p
  unfolding local_of checkpointed
  local_took_other i p ne = local_eq _ _
      (upd_other r.own i (suc (r.own i)) p ne)
      (upd_other r.vector i _ p ne)
      (upd_other r.mark i false p ne)
      (upd_other r.pin i _ p ne)

  -- Send from i to j.
  pub local_sent : (i j : ℕ) → local_of (sending r i j) i ≡ sent_at (local_of r i)
  unfolding local_of sent_at sending
  local_sent i j = local_eq _ _ refl refl (upd_same r.mark i true) refl

  pub local_sent_other : (i j p : ℕ) → (p ≡ i → ⊥) → local_of (sending r i j) p ≡ local_of r p
  unfolding local_of sending
  local_sent_other i j p ne = local_eq _ _ refl refl (upd_other r.mark i true p ne) refl

  -- Lose m.
  pub local_lost : (m p : ℕ) → local_of (lost r m) p ≡ local_of r p
  unfolding local_of lost
  local_lost m p = refl

  -- Taking in.
  local_taken : (m i : ℕ) → local_of (taken_by r m i) i ≡ taken_at i (r.carried m) (local_of r i)
  unfolding local_of taken_at taken_by
  local_taken m i = local_eq _ _ refl (upd_same r.vector i _) refl (upd_same r.pin i _)

  local_taken_other : (m i p : ℕ) → (p ≡ i → ⊥) → local_of (taken_by r m i) p ≡ local_of r p
  unfolding local_of taken_by
  local_taken_other m i p ne = local_eq _ _ refl (upd_other r.vector i _ p ne) refl (upd_other r.pin i _ p ne)

-- A delivery forces by the receiver's part and the carried vector.
pub forces_local : (r : Ideal) (m : ℕ) → forces r m ≡ forces_at r.n (r.carried m) (local_of r (r.receiver m))
unfolding forces newer forces_at local_of
forces_local r m = refl

module _ (r : Ideal) (m : ℕ) where
  abbrev i : ℕ
  i = r.receiver m

  got_forced : forces r m ≡ true → local_of (delivered r m) i ≡ taken_at i (r.carried m) (took_at i (local_of r i))
  unfolding delivered taken_in checkpointed
  got_forced e = rw e (local_taken (checkpointed r i) m i ∙ ap (taken_at i (r.carried m)) (local_took r i))

  got_plain : forces r m ≡ false → local_of (delivered r m) i ≡ taken_at i (r.carried m) (local_of r i)
  unfolding delivered taken_in
  got_plain e = rw e (local_taken r m i)

  -- Deliver m.
  pub local_got : local_of (delivered r m) (r.receiver m) ≡ got_at r.n (r.receiver m) (r.carried m) (local_of r (r.receiver m))
  unfolding got_at
  local_got = by_bool (forces r m)
      (λ e. rw (sym (forces_local r m) ∙ e) (got_forced e))
      (λ e. rw (sym (forces_local r m) ∙ e) (got_plain e))

  pub local_got_other : (p : ℕ) → (p ≡ r.receiver m → ⊥) → local_of (delivered r m) p ≡ local_of r p
  unfolding delivered taken_in checkpointed
  local_got_other p ne = by_bool (forces r m)
      (λ e. rw e (local_taken_other (checkpointed r i) m i p ne ∙ local_took_other r i p ne))
      (λ e. rw e (local_taken_other r m i p ne))
