-- The lists, the sends and the named receivers of the surviving history after an accepted call are those of the run as functions after its step.
-- Assumes nothing.
use Rattle.std.specs.Prelude.{◌≡◌, ◌≤◌, ◌<◌}
use Rattle.laws.specs.Basics.{refl, sym, ◌∙◌, ap, fun_ext, true, false, List, None, Some, ℕ, arith, ltb, get_or, ltb-true, ltb-false, by_bool}
use native.Mathlib.Numerals.{add-one}
use Rattle.laws.specs.Update.{upd}
use Rattle.histories.specs.History.{Lists, checkpoints}
use Rattle.whole_runs.specs.Calls.{checkpoint, send, deliver, Reply}
use Rattle.whole_runs.specs.Survival.{Surviving, added, forced_first, cut, lists_after, sends_after, receiver_after, underway_after, cause_with, count_of}
use Rattle.histories.proofs.Run.{Ideal, Failed, stores, checkpointed, sending, forces, taken_in, taken_by, delivered, recovered, rolled, line}
use Rattle.histories.proofs.{Invariant.Inv, Rule.safe_in, Line.line_judged}
use Rattle.whole_runs.proofs.whole.Agreement.{Agrees}

module _ (n : ℕ) (h : Surviving) (r : Ideal) (g : Agrees h r) where
  -- Checkpoint at i.
  pub checkpoint_lists : (i : ℕ) (deleted : List ℕ) (a : Reply) → lists_after n h (checkpoint i deleted) a ≡ (checkpointed r i).events
  unfolding lists_after added checkpointed
  checkpoint_lists i deleted a = rw g.lists

  -- Send from i to j.
  pub send_lists : (i j : ℕ) (a : Reply) → lists_after n h (send i j) a ≡ (sending r i j).events
  unfolding lists_after added sending
  send_lists i j a = rw (g.lists, g.sends, add-one)

  pub send_sends : (i j : ℕ) → sends_after h (send i j) ≡ (sending r i j).last
  unfolding sends_after sending
  send_sends i j = rw (g.sends, add-one)

  pub send_receiver : (i j : ℕ) → receiver_after h (send i j) ≡ (sending r i j).receiver
  unfolding receiver_after sending
  send_receiver i j = rw (g.sends, g.receiver, add-one)

  pub send_underway : (lists : Lists) (i j : ℕ) → underway_after n h lists (send i j) ≡ (sending r i j).transit
  unfolding underway_after sending
  send_underway lists i j = rw (g.sends, g.underway, add-one)

  pub deliver_underway : (lists : Lists) (m : ℕ) (deleted : List ℕ) → underway_after n h lists (deliver m deleted) ≡ (delivered r m).transit
  unfolding underway_after delivered taken_in taken_by checkpointed
  deliver_underway lists m deleted = rw g.underway (by_bool (forces r m) (λ e. rw e) (λ e. rw e))

  -- Deliver m: the answer's value says whether a checkpoint was forced.
  pub deliver_forced : (m : ℕ) (deleted : List ℕ) (a : Reply) (k : ℕ) → forces r m ≡ true → a.report.value ≡ Some k → lists_after n h (deliver m deleted) a ≡ (delivered r m).events
  unfolding lists_after added forced_first delivered taken_in taken_by checkpointed
  deliver_forced m deleted a k e d = rw (d, g.lists, g.receiver, e)

  pub deliver_plain : (m : ℕ) (deleted : List ℕ) (a : Reply) → forces r m ≡ false → a.report.value ≡ None → lists_after n h (deliver m deleted) a ≡ (delivered r m).events
  unfolding lists_after added forced_first delivered taken_in taken_by
  deliver_plain m deleted a e d = rw (d, g.lists, g.receiver, e)

module _ (h : Surviving) (r : Ideal) (v : Inv r) (g : Agrees h r) where
  -- A checkpoint of process p is stored for the run's reason.
  pub stored_cause : (p : ℕ) → cause_with h r.ledger.why (Some p) ≡ (stores r p).cause
  unfolding cause_with stores
  stored_cause p =
      let own-before : checkpoints (h.lists p) ≡ r.own p = ap (λ (l : Lists). checkpoints (l p)) g.lists ∙ sym (v.counted p) in
      λ j. upd (g.cause j) p (upd (g.cause j p) (own-before j) r.ledger.why)

  pub stored_count : (p : ℕ) → count_of h (Some p) ≡ r.ledger.block_counts p
  unfolding count_of
  stored_count p = ap (λ (c : ℕ → ℕ). c p) g.block_counts

  -- None is stored.
  pub none_cause : (c : ℕ) → cause_with h c None ≡ r.ledger.cause
  unfolding cause_with
  none_cause c = g.cause

  pub none_count : count_of h None ≡ 0
  unfolding count_of
  none_count = refl

module _ (r : Ideal) (v : Inv r) (F : Failed) where
  -- What stands at a process outside the run receives nothing, so it knows nothing and stays live.
  pub outside_stays : (p : ℕ) → r.n ≤ p → rolled r F p ≡ false
  unfolding rolled
  outside_stays p le = rw (safe_in r F p (r.own p) (λ f hf e. below f hf))
    where
      nothing_known : (f : ℕ) → f < r.n → 1 ≤ r.vector p (r.own p) f → ⊥
      nothing_known f hf pos =
          let apart : p ≡ f → ⊥ = omega arith in
          let w = v.learnt p (r.own p) f (omega arith) hf apart pos in
          let a = v.arrived p w.1 w.0 w.2 in
          let b = (v.proper (r.sender w.0) a.1.0 w.0 a.1.1).1.to in
          omega (arith, a.0, b)

      below : (f : ℕ) → f < r.n → r.vector p (r.own p) f < r.own f
      below f hf = by_bool (ltb (r.vector p (r.own p) f) (r.own f)) (λ e. ltb-true _ _ e)
          (λ e. absurd (nothing_known f hf (omega (arith, ltb-false (r.vector p (r.own p) f) (r.own f) e, v.positive f))))

  -- Recover: where the indexes written are the line, the lists are cut as the run as functions cuts them.
  pub recover_lists : (indexes : List ℕ) → ((p : ℕ) → p < r.n → get_or indexes p 0 ≡ line r F p) → cut r.n r.events indexes ≡ (recovered r F).events
  unfolding cut recovered
  recover_lists indexes e = fun_ext (λ p. by_bool (ltb p r.n)
      (λ i. rw (i, e p (ltb-true p r.n i), line_judged r v F p))
      (λ o. rw (o, outside_stays p (ltb-false p r.n o))))
