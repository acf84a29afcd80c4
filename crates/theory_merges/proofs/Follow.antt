-- One accepted call, followed in the sub-run without checkpoint g of f and all that comes after it: it is taken over, becomes a loss or is left out.
-- Process i, which never knows more than g of f, sees the same.
-- Assumes nothing.
use Rattle.std.specs.Prelude.{◌≡◌, ◌&&◌, ◌∷◌, ◌++◌, ◌⊎◌, ◌+◌, ◌≤◌, ◌<◌}
use Rattle.laws.specs.Basics.{refl, sym, ◌∙◌, ap, subst, true, false, List, [], None, inl, inr, ℕ, suc, arith, eqb, leb, length, ne_eqb, le-leb, leb-true, leb-false, pick, by_bool}
use Rattle.laws.specs.{Counting.count_mono, Tests.count_below, Truth.never_both, Truth.and_left}
use Rattle.model.specs.Words.{basic, most_processes, most_under_way, most_interval, most_blocks}
use Rattle.model.specs.declared.Named.{Named}
use Rattle.model.specs.Refusals.{checkpoint_refusal, send_refusal, deliver_refusal, lose_refusal}
use Rattle.whole_runs.specs.Outcomes.{deliver_answer, deliver_outcome, deliver_report}
use Rattle.whole_runs.specs.Calls.{Call, checkpoint, send, deliver, lose, recover, line, earliest, answered, call}
use Rattle.theory_merges.specs.Seen.{Seen, took, forced, sent_to, got, forced_in, seen_of, is_recovery}
use Rattle.histories.proofs.{Run.Ideal, Run.Ledger, Run.because, Run.checkpointed, Run.sending, Run.forces, Run.delivered, Run.lost, Invariant.Inv, Lost.lost_n}
use Rattle.histories.proofs.{Ledger.ledger_inv, Messages.underway_proper, Messages.used_number, Checkpointed.checkpointed_inv, Sending.sending_inv, Delivered.delivered_inv}
use Rattle.histories.proofs.Counted.{new_in, Paid, checkpointed_new, checkpointed_paid, delivered_new_forced, delivered_new_plain, delivered_paid}
use Rattle.histories.proofs.Local.{local_of, took_at, sent_at, local_took, local_sent, local_lost}
use Rattle.histories.proofs.SubMessages.{SubMessages, Counterpart, With, Without, passes, lost_without, delivered_without, sending_with, messages_stay, checkpointed_messages_stay, messages_same, messages_gone, messages_left, messages_skipped, messages_added}
use Rattle.histories.proofs.SubRun.{Cheaper, SubRun, known_of, StepAt, at_because, without_because, stay_because, part_because, forces_because, subrun_kept, subrun_left, subrun_messages, checkpointed_at, sending_at, delivered_at, got_same, forces_same, delivered_takes, delivered_rises, checkpointed_rises, sending_row, own_part, live_part}
use Rattle.model.proofs.simulation.View.{vector_of, message_of, messages_of, state_of, Limits}
use Rattle.model.proofs.{simulation.Accepted.send_out, simulation.Reads.last_is_lem, simulation.Reads.underway_is, simulation.Deliver.deliver_forces}
use Rattle.model.proofs.{simulation.Messages.found_is, simulation.SoundLimits.messages_count}
use Rattle.model.proofs.simulation.SoundCalls.{checkpoint_run, send_run, deliver_run, lose_run}
use Rattle.model.proofs.simulation.Admitted.{checkpoint_admitted, send_admitted, deliver_admitted, lose_admitted, deliver_early}
use Rattle.whole_runs.proofs.{whole.Reached.refusal, whole.Runs.stepped}
use Rattle.model.specs.Words as words

-- What the receipt of message m shows to its receiver.
unfoldable receipt_of : Ideal → ℕ → List Seen
receipt_of r m = pick (forces r m) (forced ∷ []) [] ++ (got (r.sender m) (vector_of r.n (r.carried m)) ∷ [])

-- What process i sees of an accepted delivery.
seen_deliver : (r : Ideal) → Inv r → r.n ≤ most_processes → (i m : ℕ) (deleted : List ℕ) → r.transit m ≡ true → deliver_refusal (state_of r) m deleted ≡ None
    → seen_of i (state_of r) (deliver m deleted) ≡ pick (eqb (r.receiver m) i) (receipt_of r m) []
unfolding seen_of receipt_of message_of call answered deliver_outcome deliver_answer deliver_report forced_in
seen_deliver r v few i m deleted under e =
    rw (e, found_is r m (used_number r v m under) under, deliver_forces r m few (underway_proper r v m under).to (v.self (r.receiver m) (r.own (r.receiver m)) (omega arith)))
    (by_bool (forces r m) (λ d. rw d) (λ d. rw d))

-- A process that is not i.
not_seen : (x : List Seen) (p i : ℕ) → (p ≡ i → ⊥) → pick (eqb p i) x [] ≡ []
not_seen x p i ne = rw (ne_eqb p i ne)

module _ (i f g : ℕ) where
  -- Call c is taken over, or another in its stead, where r is the run and r' the sub-run.
  pub record Taken (r r' : Ideal) (c : Call) : Type 0 where
    pub instead : Call
    pub accepted : refusal (state_of r') instead ≡ None
    pub subrun : SubRun f g (stepped r c) (stepped r' instead)
    pub no_recovery : is_recovery instead ≡ false
    pub same : seen_of i (state_of r') instead ≡ seen_of i (state_of r) c

  -- Or it is left out.
  abbrev pub Next : Ideal → Ideal → Call → Type 0
  Next r r' c = (SubRun f g (stepped r c) r' × (seen_of i (state_of r) c ≡ [])) ⊎ Taken r r' c

  module _ (r r' : Ideal) (v : Inv r) (v' : Inv r') (fit : Limits r) (fit' : Limits r') (hf : f < r.n) (c : SubRun f g r r') where
    few : r.n ≤ most_processes
    few = fit.few_processes

    few' : r'.n ≤ most_processes
    few' = fit'.few_processes

    -- The block count of a process, and that the run with another reason for the next checkpoint has all that the invariant says.
    count_same : (p : ℕ) → r'.ledger.block_counts p ≡ r.ledger.block_counts p
    count_same p = ap (λ (x : ℕ → ℕ). x p) c.cheaper.block_counts

    inv_because : (why : ℕ) → Inv (because why r)
    inv_because why = ledger_inv r _ v

    -- A step that writes what it stores, with a step of the other run that stores as much, or none.
    both_pay : (why : ℕ) (r₁ r₁' : Ideal) → Paid (because why r) r₁ → Paid (because why r') r₁' → new_in (because why r') r₁' ≡ new_in (because why r) r₁ → Cheaper r₁ r₁'
    both_pay why r₁ r₁' paid paid' same =
        record { block_counts = paid'.block_counts ∙ c.cheaper.block_counts ∙ sym paid.block_counts; written = omega (arith, paid.written, paid'.written, same, c.cheaper.written) }

    one_pays : (why : ℕ) (r₁ r₁' : Ideal) → Paid (because why r) r₁ → r₁'.ledger ≡ r'.ledger → Cheaper r₁ r₁'
    one_pays why r₁ r₁' paid still = record {
      block_counts = ap (λ (l : Ledger). l.block_counts) still ∙ c.cheaper.block_counts ∙ sym paid.block_counts;
      written = omega (arith, ap (λ (l : Ledger). l.written) still, paid.written, c.cheaper.written);
    }

    -- Checkpoint at p.
    next_checkpoint : (p : ℕ) (deleted : List ℕ) → checkpoint_refusal (state_of r) p deleted ≡ None → known_of (checkpointed (because basic r) p) i f ≤ g → Next r r' (checkpoint p deleted)
    unfolding stepped refusal is_recovery seen_of
    next_checkpoint p deleted e bound =
        let w = checkpoint_run r v fit p deleted e in
        let a = because basic r in
        let a' = because basic r' in
        let r₁ = checkpointed a p in
        let r₁' = checkpointed a' p in
        let hp' : p < r'.n = omega (arith, c.size, w.0) in
        let step = at_because r r₁ basic p (checkpointed_at a p) in
        let stay = stay_because r r₁ basic (checkpointed_messages_stay a p) in
        by_bool (leb (known_of (checkpointed (because basic r) p) p f) g)
        (λ d.
        let low : known_of (checkpointed (because basic r) p) p f ≤ g = leb-true (known_of (checkpointed (because basic r) p) p f) g d in
        let same : local_of r' p ≡ local_of r p = c.whole p w.0 (omega (arith, low, checkpointed_rises a (inv_because basic) p p f)) in
        inr (record {
          instead = checkpoint p deleted;
          accepted = checkpoint_admitted r' v' fit' p deleted hp' (omega (arith, w.1, own_part r r' p same)) (rw c.size w.2) (omega (arith, w.3, c.cheaper.written, count_same p));
          subrun = subrun_kept f g r r₁ r' r₁' p hf (checkpointed_inv a p (inv_because basic)) c step (at_because r' r₁' basic p (checkpointed_at a' p)) low
              (local_took a' p ∙ ap (took_at p) (part_because r r' basic p same) ∙ sym (local_took a p))
              (messages_same f g r r' r₁ r₁' c.messages stay (stay_because r' r₁' basic (checkpointed_messages_stay a' p)))
              (both_pay basic r₁ r₁' (checkpointed_paid a p w.0) (checkpointed_paid a' p hp') (checkpointed_new a' p hp' ∙ count_same p ∙ sym (checkpointed_new a p w.0)));
          no_recovery = refl;
          same = refl;
        }))
        (λ d.
        let high : g < known_of (checkpointed (because basic r) p) p f = leb-false (known_of (checkpointed (because basic r) p) p f) g d in
        inl (
          subrun_left f g r r₁ r' r' p hf v c step (λ q. refl) refl high
              (messages_same f g r r' r₁ r' c.messages stay (messages_stay r'))
              (one_pays basic r₁ r' (checkpointed_paid a p w.0) refl),
          not_seen (took ∷ []) p i (λ q. omega (arith, high, bound, ap (λ (x : ℕ). known_of (checkpointed (because basic r) p) x f) q)),
        ))

    -- Fewer are under way in the other run.
    room : length (messages_of r) < most_under_way → length (messages_of r') < most_under_way
    room less =
        let fewer : count_below (suc r.last) (λ m. r.transit m && passes f g r m) ≤ count_below (suc r.last) r.transit
        = count_mono (suc r.last) (λ m. r.transit m && passes f g r m) r.transit (λ m lt t. and_left (r.transit m) (passes f g r m) t) in
        omega (arith, less, messages_count r, messages_count r', c.messages.count)

    -- A send from p to q.
    next_send : (p q : ℕ) → send_refusal (state_of r) p q ≡ None → known_of (sending r p q) i f ≤ g → Next r r' (send p q)
    unfolding stepped refusal is_recovery seen_of sending
    next_send p q e bound =
        let w = send_run r v fit p q e in
        let h = send_out (state_of r) p q e in
        let still : known_of (sending r p q) p f ≡ known_of r p f = sending_row r p q p f in
        by_bool (leb (known_of r p f) g)
        (λ d.
        let low : known_of r p f ≤ g = leb-true (known_of r p f) g d in
        let same : local_of r' p ≡ local_of r p = c.whole p w.0 low in
        let carries : With r' (sending r' p q) p q (r.vector p (r.own p)) = subst (With r' (sending r' p q) p q) (live_part r r' p same) (sending_with r' p q) in
        inr (record {
          instead = send p q;
          accepted = send_admitted r' v' fit' p q (omega (arith, c.size, w.0)) (omega (arith, c.size, w.1)) w.2 (room (rw (underway_is r) at h.room)) (omega (arith, c.messages.last, rw (last_is_lem r) at h.numbers));
          subrun = subrun_kept f g r (sending r p q) r' (sending r' p q) p hf (sending_inv r p q v w.0 w.1 w.2) c (sending_at r p q) (sending_at r' p q) (omega (arith, low, still))
              (local_sent r' p q ∙ ap sent_at same ∙ sym (local_sent r p q))
              (messages_added f g r r' (sending r p q) (sending r' p q) p q (r.vector p (r.own p)) v' c.messages low (sending_with r p q) carries)
              (record { block_counts = c.cheaper.block_counts; written = c.cheaper.written });
          no_recovery = refl;
          same = refl;
        }))
        (λ d.
        let high : g < known_of r p f = leb-false (known_of r p f) g d in
        inl (
          subrun_left f g r (sending r p q) r' r' p hf v c (sending_at r p q) (λ x. refl) refl (omega (arith, high, still))
              (messages_skipped f g r r' (sending r p q) p q (r.vector p (r.own p)) c.messages high (sending_with r p q))
              (record { block_counts = c.cheaper.block_counts; written = c.cheaper.written }),
          not_seen (sent_to q ∷ []) p i (λ x. omega (arith, high, still, bound, ap (λ (y : ℕ). known_of (sending r p q) y f) x)),
        ))

    -- A message is lost in both runs, or was never sent in the other.
    drop : (m : ℕ) (r₁ : Ideal) → r.transit m ≡ true → Without r r₁ m
        → (SubRun f g r r' → (r₁' : Ideal) → ((p : ℕ) → local_of r₁' p ≡ local_of r' p) → r₁'.n ≡ r'.n → r₁'.ledger ≡ r'.ledger → SubMessages f g r₁ r₁' → SubRun f g r₁ r₁')
        → SubRun f g r₁ r' ⊎ ((k : ℕ) × (r'.transit k ≡ true) × SubRun f g r₁ (lost r' k))
    unfolding lost
    drop m r₁ under gone make = by_bool (passes f g r m)
        (λ d. let k : ℕ = c.messages.number m in
        inr (k, (c.messages.counterpart m under d).under, make c (lost r' k) (local_lost r' k) (lost_n r' k) refl (messages_gone f g r r' r₁ (lost r' k) m v v' c.messages under d gone (lost_without r' k))))
        (λ d. inl (make c r' (λ p. refl) refl refl (messages_left f g r r' r₁ m c.messages d gone)))

    -- Lose m.
    next_lose : (m : ℕ) → lose_refusal (state_of r) m ≡ None → Next r r' (lose m)
    unfolding stepped refusal is_recovery seen_of lost
    next_lose m e =
        let under = (lose_run r v fit m e).0 in
        elim (drop m (lost r m) under (lost_without r m) (λ c r₁' same size still messages. subrun_messages f g r (lost r m) r' r₁' c (lost_n r m) size (local_lost r m) same messages (record {
          block_counts = ap (λ (l : Ledger). l.block_counts) still ∙ c.cheaper.block_counts;
          written = omega (arith, ap (λ (l : Ledger). l.written) still, c.cheaper.written);
        }))) [
          | inl z ↦ inl (z, refl)
          | inr z ↦ inr (record { instead = lose z.0; accepted = lose_admitted r' v' fit' z.0 z.1; subrun = z.2; no_recovery = refl; same = refl })
        ]

    -- Deliver m.
    module _ (m : ℕ) (deleted : List ℕ) (e : deliver_refusal (state_of r) m deleted ≡ None) (bound : known_of (delivered (because words.forced r) m) i f ≤ g) where
      under : r.transit m ≡ true
      under = (deliver_run r v fit m deleted e).0

      hb : r.receiver m < r.n
      hb = (underway_proper r v m under).to

      -- The run, where a checkpoint stored now is a forced one, and the run after the delivery.
      abbrev a : Ideal
      a = because words.forced r

      abbrev r₁ : Ideal
      r₁ = delivered (because words.forced r) m

      step : StepAt r (delivered (because words.forced r) m) (r.receiver m)
      step = at_because r r₁ words.forced (r.receiver m) (delivered_at a m)

      gone : Without r (delivered (because words.forced r) m) m
      gone = without_because r r₁ words.forced m (delivered_without a m)

      -- The receiver then knows more than g: it is not i.
      deliver_left : g < known_of (delivered (because words.forced r) m) (r.receiver m) f → Next r r' (deliver m deleted)
      unfolding stepped refusal is_recovery seen_of
      deliver_left high =
          let ne : r.receiver m ≡ i → ⊥ = λ q. omega (arith, high, bound, ap (λ (x : ℕ). known_of r₁ x f) q) in
          let unseen : seen_of i (state_of r) (deliver m deleted) ≡ [] = seen_deliver r v few i m deleted under e ∙ not_seen (receipt_of r m) (r.receiver m) i ne in
          elim (drop m r₁ under gone (λ c r₁' same size still messages. subrun_left f g r r₁ r' r₁' (r.receiver m) hf v c step same size high messages (one_pays words.forced r₁ r₁' (delivered_paid a m hb) still))) [
            | inl z ↦ inl (z, unseen)
            | inr z ↦ inr (record { instead = lose z.0; accepted = lose_admitted r' v' fit' z.0 z.1; subrun = z.2; no_recovery = refl; same = sym unseen })
          ]

      -- It knows at most g: the other run has the message, and delivers it.
      module _ (low : known_of (delivered (because words.forced r) m) (r.receiver m) f ≤ g) where
        passed : passes f g r m ≡ true
        passed = le-leb (r.carried m f) g (omega (arith, low, delivered_takes a (inv_because words.forced) m under f hf))

        counterpart : Counterpart r r' m (c.messages.number m)
        counterpart = c.messages.counterpart m under passed

        part : local_of r' (r.receiver m) ≡ local_of r (r.receiver m)
        part = c.whole (r.receiver m) hb (omega (arith, low, delivered_rises a (inv_because words.forced) m under (r.receiver m) f))

        forced_too : forces r' (c.messages.number m) ≡ forces r m
        forced_too = forces_same r r' m (c.messages.number m) (r.receiver m) refl counterpart.receiver c.size counterpart.carried part

        early : forces r' (c.messages.number m) ≡ true → r'.own (r'.receiver (c.messages.number m)) < most_interval
        early q = rw counterpart.receiver (omega (arith, own_part r r' (r.receiver m) part, deliver_early r v fit m deleted e (sym forced_too ∙ q)))

        blocks : forces r' (c.messages.number m) ≡ true → r'.ledger.written + r'.ledger.block_counts (r'.receiver (c.messages.number m)) ≤ most_blocks
        blocks q = rw counterpart.receiver (omega (arith, (deliver_run r v fit m deleted e).3 (sym forced_too ∙ q), c.cheaper.written, count_same (r.receiver m)))

        -- The other run, and it after the delivery.
        abbrev k : ℕ
        k = c.messages.number m

        abbrev a' : Ideal
        a' = because words.forced r'

        abbrev r₁' : Ideal
        r₁' = delivered (because words.forced r') (c.messages.number m)

        hb' : r'.receiver (c.messages.number m) < r'.n
        hb' = omega (arith, counterpart.receiver, c.size, hb)

        new_same : new_in (because words.forced r') (delivered (because words.forced r') (c.messages.number m)) ≡ new_in (because words.forced r) (delivered (because words.forced r) m)
        new_same = by_bool (forces r m)
            (λ q. delivered_new_forced a' k hb' (forces_because r' words.forced k ∙ forced_too ∙ q)
            ∙ ap r'.ledger.block_counts counterpart.receiver ∙ count_same (r.receiver m)
            ∙ sym (delivered_new_forced a m hb (forces_because r words.forced m ∙ q)))
            (λ q. delivered_new_plain a' k (forces_because r' words.forced k ∙ forced_too ∙ q) ∙ sym (delivered_new_plain a m (forces_because r words.forced m ∙ q)))

        step' : StepAt r' (delivered (because words.forced r') (c.messages.number m)) (r.receiver m)
        step' = subst (StepAt r' r₁') counterpart.receiver (at_because r' r₁' words.forced (r'.receiver k) (delivered_at a' k))

        admitted : deliver_refusal (state_of r') (c.messages.number m) deleted ≡ None
        admitted = deliver_admitted r' v' fit' (c.messages.number m) deleted counterpart.under (rw c.size (deliver_run r v fit m deleted e).2) early blocks

        seen_too : seen_of i (state_of r') (deliver (c.messages.number m) deleted) ≡ seen_of i (state_of r) (deliver m deleted)
        unfolding receipt_of
        seen_too =
            seen_deliver r' v' few' i (c.messages.number m) deleted counterpart.under admitted
            ∙ (λ j. pick (eqb (counterpart.receiver j) i) (pick (forced_too j) (forced ∷ []) [] ++ (got (counterpart.sender j) (vector_of (c.size j) (counterpart.carried j)) ∷ [])) [])
            ∙ sym (seen_deliver r v few i m deleted under e)

        deliver_kept : Next r r' (deliver m deleted)
        unfolding stepped refusal is_recovery
        deliver_kept = inr (record {
          instead = deliver (c.messages.number m) deleted;
          accepted = admitted;
          subrun = subrun_kept f g r r₁ r' r₁' (r.receiver m) hf (delivered_inv a m (inv_because words.forced) under) c step step' low
              (got_same a a' m k (r.receiver m) refl counterpart.receiver c.size counterpart.carried (part_because r r' words.forced (r.receiver m) part))
              (messages_gone f g r r' r₁ r₁' m v v' c.messages under passed gone (without_because r' r₁' words.forced k (delivered_without a' k)))
              (both_pay words.forced r₁ r₁' (delivered_paid a m hb) (delivered_paid a' k hb') new_same);
          no_recovery = refl;
          same = seen_too;
        })

      next_deliver : Next r r' (deliver m deleted)
      next_deliver = by_bool (leb (known_of (delivered (because words.forced r) m) (r.receiver m) f) g)
          (λ d. deliver_kept (leb-true (known_of r₁ (r.receiver m) f) g d))
          (λ d. deliver_left (leb-false (known_of r₁ (r.receiver m) f) g d))

    -- A call that writes a line changes nothing.
    next_line : (F : ℕ) (lent : List ℕ) → Next r r' (line F lent)
    unfolding stepped seen_of
    next_line F lent = inl (c, refl)

    next_earliest : (l : List Named) (lent : List ℕ) → Next r r' (earliest l lent)
    unfolding stepped seen_of
    next_earliest l lent = inl (c, refl)

    -- Each accepted call but a recovery.
    pub next : (a : Call) → refusal (state_of r) a ≡ None → is_recovery a ≡ false → known_of (stepped r a) i f ≤ g → Next r r' a
    unfolding refusal
    next (checkpoint p deleted) e q bound = next_checkpoint p deleted e (unfold stepped in bound)
    next (send p q) e d bound = next_send p q e (unfold stepped in bound)
    next (deliver m deleted) e q bound = next_deliver m deleted e (unfold stepped in bound)
    next (lose m) e q bound = next_lose m e
    next (recover F deleted lent) e q bound = never_both true refl (unfold is_recovery in q)
    next (line F lent) e q bound = next_line F lent
    next (earliest l lent) e q bound = next_earliest l lent
