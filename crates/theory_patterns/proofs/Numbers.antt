-- A trace that is read to its end leaves a pattern whose processes are among n and whose messages have the numbers 1 to the number of sends.
-- Assumes nothing.
use Rattle.std.specs.Prelude.{◌≡◌, ◌∷◌, ◌+◌, ◌/◌, ◌<◌}
use Rattle.laws.specs.Basics.{sym, ◌∙◌, ap, true, false, false≢true, List, [], Option, None, Some, inl, inr, ℕ, suc, arith, ltb, leb, length, leb-false, not-false, by_bool, by_eq}
use Rattle.laws.specs.{Options.none≢some, Truth.or_none, Update.upd, Update.upd_same, Update.upd_other}
use Rattle.model.specs.declared.{Event.Event, Refusal.Refusal}
use Rattle.model.specs.declared.Event.TheVariants.{Checkpoint, Send, Deliver, Lose, Recover}
use Rattle.model.specs.{Words.ones, Refusals.start_refusal, laws.Refusals.no_rule, laws.Refusals.by_refusal, Trace.decoded}
use Rattle.histories.specs.History.{stored, sent, received}
use Rattle.histories.proofs.Apart.{same_sent, same_received, sent_stored, received_stored, sent_received}
use Rattle.theory_patterns.specs.Patterns.{Pattern, empty, record_refusal, taken, refused, whole, most_judged, read_from, reading}
use Rattle.theory_patterns.proofs.{Adding.event_cases, Placing.first_event, Tested.Numbered}

-- What is read to its end is not refused.
not_refused : {P : Type 0} (r : Refusal) (t : Pattern) → refused r ≡ whole t → P
not_refused r t e = absurd (let z : ◌≡◌ {A = ℕ} 0 1 = cc in omega arith)

same_whole : (t u : Pattern) → whole t ≡ whole u → t ≡ u
same_whole t u e = cc

-- The events, and the messages under way.
record Placed (n : ℕ) (t : Pattern) : Type 0 where
  events : Numbered n t.sends t.lists
  waiting : (m : ℕ) → t.underway m ≡ true → (t.receiver m < n) × (m < suc t.sends)

placed_empty : (n : ℕ) → Placed n empty
unfolding empty
placed_empty n = record {
  events = record {
    sent_by = λ p i m e. absurd (sent_stored m (first_event i (sent m) e));
    received_by = λ p i m e. absurd (received_stored m (first_event i (received m) e));
  };
  waiting = λ m e. absurd (false≢true e);
}

module _ (n : ℕ) (t : Pattern) (h : Placed n t) where
  abbrev Place : ℕ → ℕ → Type 0
  Place p m = (p < n) × (m < suc t.sends)

  placed_checkpoint : (i : ℕ) → Placed n (taken t (Some (Checkpoint i)))
  unfolding taken
  placed_checkpoint i = record {
    events = record {
      sent_by = λ p j m e. elim (event_cases t.lists i stored p j (sent m) e) [ inl u ↦ h.events.sent_by p j m u | inr u ↦ absurd (sent_stored m (sym u.2)) ];
      received_by = λ p j m e. elim (event_cases t.lists i stored p j (received m) e) [ inl u ↦ h.events.received_by p j m u | inr u ↦ absurd (received_stored m (sym u.2)) ];
    };
    waiting = h.waiting;
  }

  placed_send : (i j : ℕ) → i < n → j < n → Placed n (taken t (Some (Send i j)))
  unfolding taken
  placed_send i j hi hj = record {
    events = record {
      sent_by = λ p k m e. elim (event_cases t.lists i (sent (t.sends + 1)) p k (sent m) e) [
        | inl u ↦ let w = h.events.sent_by p k m u in (w.0, omega (arith, w.1))
        | inr u ↦ (omega (arith, u.0), omega (arith, same_sent (t.sends + 1) m u.2))
      ];
      received_by = λ p k m e. elim (event_cases t.lists i (sent (t.sends + 1)) p k (received m) e) [
        | inl u ↦ let w = h.events.received_by p k m u in (w.0, omega (arith, w.1))
        | inr u ↦ absurd (sent_received (t.sends + 1) m u.2)
      ];
    };
    waiting = λ m e. by_eq m (t.sends + 1)
        (λ c. (omega (arith, ap (upd t.receiver (t.sends + 1) j) c, upd_same t.receiver (t.sends + 1) j), omega arith))
        (λ ne.
        let w = h.waiting m (sym (upd_other t.underway (t.sends + 1) true m ne) ∙ e) in
        (omega (arith, upd_other t.receiver (t.sends + 1) j m ne, w.0), omega (arith, w.1)));
  }

  dropped : (m x : ℕ) → upd t.underway m false x ≡ true → t.underway x ≡ true
  dropped m x e = by_eq x m
      (λ c. absurd (false≢true (sym (upd_same t.underway m false) ∙ sym (ap (upd t.underway m false) c) ∙ e)))
      (λ ne. sym (upd_other t.underway m false x ne) ∙ e)

  placed_deliver : (m : ℕ) → t.underway m ≡ true → Placed n (taken t (Some (Deliver m)))
  unfolding taken
  placed_deliver m there = record {
    events = record {
      sent_by = λ p k x e. elim (event_cases t.lists (t.receiver m) (received m) p k (sent x) e) [
        | inl u ↦ h.events.sent_by p k x u
        | inr u ↦ absurd (sent_received x m (sym u.2))
      ];
      received_by = λ p k x e. elim (event_cases t.lists (t.receiver m) (received m) p k (received x) e) [
        | inl u ↦ h.events.received_by p k x u
        | inr u ↦ let w = h.waiting m there in (omega (arith, u.0, w.0), omega (arith, same_received m x u.2, w.1))
      ];
    };
    waiting = λ x e. h.waiting x (dropped m x e);
  }

  placed_lose : (m : ℕ) → Placed n (taken t (Some (Lose m)))
  unfolding taken
  placed_lose m = record { events = h.events; waiting = λ x e. h.waiting x (dropped m x e) }

  placed_taken : (e : Option Event) → record_refusal n t e ≡ None → Placed n (taken t e)
  unfolding record_refusal
  placed_taken None free = absurd (none≢some (sym free))
  placed_taken (Some (Checkpoint i)) free = placed_checkpoint i
  placed_taken (Some (Send i j)) free =
      let w = or_none (leb n i) (leb n j) (no_rule _ free 0) in
      placed_send i j (leb-false n i w.0) (leb-false n j w.1)
  placed_taken (Some (Deliver m)) free = placed_deliver m (not-false (t.underway m) (no_rule _ free 0))
  placed_taken (Some (Lose m)) free = placed_lose m
  placed_taken (Some (Recover F)) free = absurd (none≢some (sym free))

placed_read : (n : ℕ) (t : Pattern) (l : List ℕ) (u : Pattern) → Placed n t → read_from n t l ≡ whole u → Placed n u
unfolding read_from
placed_read n t [] u h e = rw (same_whole t u e) at h
placed_read n t (a ∷ []) u h e = not_refused _ u e
placed_read n t (a ∷ b ∷ []) u h e = not_refused _ u e
placed_read n t (a ∷ b ∷ c ∷ []) u h e = not_refused _ u e
placed_read n t (a ∷ b ∷ c ∷ d ∷ l) u h e =
    let x = decoded (a ∷ b ∷ c ∷ d ∷ []) in
    by_refusal (record_refusal n t x)
    (λ q. placed_read n (taken t x) l u (placed_taken n t h x q) (rw q at e))
    (λ r q. not_refused r u (rw q at e))

pub numbered : (n : ℕ) (l : List ℕ) (u : Pattern) → reading (n ∷ l) ≡ whole u → Numbered n u.sends u.lists
unfolding reading
numbered n l u e = by_refusal (start_refusal n ones)
    (λ q. by_bool (ltb most_judged (length l / 4))
    (λ d. not_refused _ u (rw (q, d) at e))
    (λ d. (placed_read n empty l u (placed_empty n) (rw (q, d) at e)).events))
    (λ r q. not_refused r u (rw q at e))
