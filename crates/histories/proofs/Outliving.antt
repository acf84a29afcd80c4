-- Which messages outlive a recovery, by the lists: those that were under way and whose send still stands in the list of its sender.
-- Assumes nothing.
use Rattle.std.specs.Prelude.{◌≡◌, ◌&&◌, ◌∷◌, ◌≤◌}
use Rattle.laws.specs.Basics.{refl, sym, true, false≢true, List, [], inl, inr, ℕ, arith, eqb, leb, eq-eqb, eqb-true, leb-true, leb-false, by_bool}
use Rattle.laws.specs.{Search.any_in, Search.any_out, Truth.or_left, Truth.or_in_right}
use Rattle.histories.specs.History.{HistoryEvent, stored, sent, received, is_sent, still_sent}
use Rattle.histories.proofs.{Places.Stands, Places.first, Places.stands_cons, Places.stands_nil, Cuts.past_stored, Cuts.past_sent, Cuts.past_received}
use Rattle.histories.proofs.{Run.Ideal, Run.Failed, Run.line, Run.outlives, Run.recovered, Invariant.Inv, RecoveredStates.before, RecoveredStates.after}
use Rattle.histories.proofs.Messages.{sent_in, sent_in_stands, underway_proper, underway_sent, sent_once}
use Rattle.histories.proofs.Apart.{same_sent, sent_stored, sent_received}

-- The test finds a send where it stands, and only there.
sent_in_lem : (m g : ℕ) (l : List HistoryEvent) → Stands (sent m) g l → is_sent m l ≡ true
unfolding is_sent
sent_in_lem m g [] s = absurd (stands_nil s)
sent_in_lem m g (stored ∷ l) s = elim (stands_cons s) [ inl w ↦ absurd (sent_stored m w.0) | inr w ↦ sent_in_lem m w.0 l w.1 ]
sent_in_lem m g (sent k ∷ l) s = elim (stands_cons s) [
  | inl w ↦ or_left (eqb k m) (is_sent m l) (eq-eqb k m (sym (same_sent m k w.0)))
  | inr w ↦ or_in_right (eqb k m) (is_sent m l) (sent_in_lem m w.0 l w.1)
]
sent_in_lem m g (received k ∷ l) s = elim (stands_cons s) [ inl w ↦ absurd (sent_received m k w.0) | inr w ↦ sent_in_lem m w.0 l w.1 ]

sent_out : (m : ℕ) (l : List HistoryEvent) → is_sent m l ≡ true → (g : ℕ) × Stands (sent m) g l
unfolding is_sent
sent_out m [] e = absurd (false≢true e)
sent_out m (stored ∷ l) e = let w = sent_out m l e in (_, past_stored w.1)
sent_out m (sent k ∷ l) e = by_bool (eqb k m)
    (λ q. let same = eqb-true k m q in (0, first (rw same refl) refl))
    (λ q. let w = sent_out m l (rw q at e) in (_, past_sent k w.1))
sent_out m (received k ∷ l) e = let w = sent_out m l e in (_, past_received k w.1)

module _ (r : Ideal) (v : Inv r) (F : Failed) (m : ℕ) where
  -- The run after the step, and the sender.
  abbrev r' : Ideal
  r' = recovered r F

  abbrev q : ℕ
  q = r.sender m

  module _ (under : r.transit m ≡ true) where
    -- Its send stands in an interval up to its sender's member: it stands there still.
    stands_still : r.carried m q ≤ line r F q → still_sent r.n r'.events m ≡ true
    unfolding still_sent
    stands_still le =
        any_in r.n (λ p. is_sent m (r'.events p)) q (underway_proper r v m under).from
        (sent_in_lem m (sent_in r v m under) (r'.events q) (after r v F q (sent_in r v m under) (sent_in_stands r v m under) (rw (underway_sent r v m under) at le)))

    -- It stands somewhere still: there, in an interval up to the member.
    stood_there : still_sent r.n r'.events m ≡ true → r.carried m q ≤ line r F q
    unfolding still_sent
    stood_there e =
        let w = any_out r.n (λ p. is_sent m (r'.events p)) e in
        let p = w.0 in
        let s = sent_out m (r'.events p) w.2 in
        let b = before r v F p s.0 s.1 in
        let once = sent_once r v p s.0 q (sent_in r v m under) m b.0 (sent_in_stands r v m under) in
        rw (underway_sent r v m under, ← once.1, ← once.0) b.1

    both_ways : still_sent r.n r'.events m ≡ leb (r.carried m q) (line r F q)
    both_ways = by_bool (leb (r.carried m q) (line r F q))
        (λ e. rw e (stands_still (leb-true _ _ e)))
        (λ e. rw e (by_bool (still_sent r.n r'.events m)
        (λ t. absurd (omega (arith, stood_there t, leb-false (r.carried m q) (line r F q) e)))
        (λ t. t)))

  pub still_sent_lem : (r.transit m && still_sent r.n r'.events m) ≡ r'.transit m
  unfolding recovered outlives
  still_sent_lem = by_bool (r.transit m)
      (λ e. rw e (both_ways e))
      (λ e. rw e)
