-- Each accepted call, as a step of the run as functions: checkpoint, send, deliver, lose, line and the earliest line. Recover has a file of its own.
-- Assumes nothing.
use Rattle.std.specs.Prelude.{◌≡◌, ◌*◌, ◌≤◌, ◌<◌}
use Rattle.laws.specs.Basics.{refl, sym, ◌∙◌, ap, fun_ext, true, false, List, [], None, Some, inl, ℕ, arith, length, get_or, by_bool}
use Rattle.laws.specs.{Search.any_below, Sums.sum_below}
use Rattle.model.specs.{Words.most_processes, Words.basic, Words.forced, Words.process, Words.live, Steps.checkpoint_deletions, Steps.deliver_deletions}
use Rattle.model.specs.declared.Named.{Named}
use Rattle.histories.specs.History.{Lists}
use Rattle.model.specs.Refusals.{checkpoint_refusal, send_refusal, deliver_refusal, lose_refusal, line_refusal}
use Rattle.whole_runs.specs.Outcomes.{pairs, written, checkpoint_outcome, checkpoint_report, send_outcome, send_report, message, deliver_answer, deliver_outcome, deliver_report, lose_outcome, lose_report, line_outcome, line_report}
use Rattle.whole_runs.specs.Calls.{Call, checkpoint, send, deliver, lose, line, earliest, Reply, answered, call}
use Rattle.whole_runs.specs.{Earliest.earliest_refusal, Earliest.earliest_outcome, Answers.lent_deletions}
use Rattle.whole_runs.specs.Survival.{Surviving, handed_out_of, lists_after, sends_after, receiver_after, underway_after, forced_at, stored_by, cause_of, cause_with, count_of}
use Rattle.histories.proofs.{Run.Ideal, Run.Ledger, Run.keeps, Run.checkpointed, Run.sending, Run.forces, Run.delivered, Run.lost, Invariant.Inv}
use Rattle.histories.proofs.Counted.{gone_in, new_in, gone_none, still_new, checkpointed_new, checkpointed_paid, sending_new, sending_paid, lost_new, lost_paid, delivered_new_forced, delivered_new_plain, delivered_ledger_forced, delivered_ledger_plain, delivered_paid}
use Rattle.histories.proofs.{Messages.underway_proper, Keeping.checkpointed_moved, Keeping.sending_moved, Keeping.lost_moved, Keeping.delivered_moved}
use Rattle.histories.proofs.Memory.{Memory, checkpointed_memory, sending_memory, lost_memory, delivered_memory}
use Rattle.histories.proofs.{CheckpointedViews.checkpointed_last, Checkpointed.checkpointed_inv, Sending.sending_inv, Sending.sending_keeps}
use Rattle.histories.proofs.{Lost.lost_inv, Lost.lost_keeps, Delivered.delivered_inv, DeliveredViews.delivered_last, DeliveredViews.delivered_receiver}
use Rattle.model.proofs.{simulation.View.message_of, simulation.View.state_of, simulation.View.Limits, simulation.Checkpoint.checkpoint_is}
use Rattle.model.proofs.simulation.SoundCalls.{checkpoint_run, send_run, deliver_run}
use Rattle.model.proofs.simulation.SoundLimits.{fits_checkpoint, limits_checkpoint, fits_deliver, limits_deliver, limits_lose}
use Rattle.model.proofs.{simulation.Messages.send_is, simulation.Messages.lose_is, simulation.Deliver.deliver_is, simulation.Deliver.deliver_forces}
use Rattle.whole_runs.proofs.whole.Handed.{pair_blocks, checkpoint_handed, checkpoint_blocks, deliver_handed, deliver_blocks}
use Rattle.whole_runs.proofs.{whole.Agreement.Agrees, whole.Agreement.HandsOut, whole.Accepted.Step}
use Rattle.whole_runs.proofs.whole.Gone.{HandsOver, no_change, nothing_over, checkpoint_over, deliver_over}
use Rattle.whole_runs.proofs.whole.Listed.{checkpoint_lists, send_lists, send_sends, send_receiver, send_underway, deliver_underway, deliver_forced, deliver_plain, stored_cause, stored_count, none_cause, none_count}
use Rattle.model.specs.Steps as steps

-- An answer without deletions hands out nothing, and nothing may be gone.
hands_out_none : (a : Reply) (r r' : Ideal) → a.report.deletions ≡ 0 → ((p k : ℕ) → keeps r' p k ≡ keeps r p k) → HandsOut a r r'
unfolding HandsOut handed_out_of any_below
hands_out_none a r r' count same p k hp = rw (count, same p k) (sym (no_change (keeps r p k)))

blocks_none : (a : Reply) (r r' : Ideal) → a.report.deletions ≡ 0 → ((p k : ℕ) → keeps r' p k ≡ keeps r p k) → pair_blocks r a ≡ gone_in r r'
unfolding sum_below
blocks_none a r r' count same = ap (λ (k : ℕ). sum_below k (λ d. r.ledger.block_counts (get_or a.deleted (2 * d) 0))) count ∙ sym (gone_none r r' same)

module _ (n : ℕ) (h : Surviving) (r : Ideal) (v : Inv r) (fit : Limits r) (memory : Memory r) (size : r.n ≡ n) (g : Agrees h r) where
  few : r.n ≤ most_processes
  few = fit.few_processes

  self : (i : ℕ) → r.vector i (r.own i) i ≡ r.own i
  self i = v.self i (r.own i) (omega arith)

  -- Checkpoint at i, where the run says that one stored now is a basic one.
  module _ (i : ℕ) (deleted : List ℕ) (e : checkpoint_refusal (state_of r) i deleted ≡ None) (asked : r.ledger.why ≡ basic) where
    checkpoint_run_state : (call (state_of r) (checkpoint i deleted)).run ≡ state_of (checkpointed r i)
    unfolding call answered checkpoint_outcome
    checkpoint_run_state = rw e (checkpoint_is r v i few (checkpoint_run r v fit i deleted e).0 asked fit.ledger.paid)

    checkpoint_count : (call (state_of r) (checkpoint i deleted)).reply.report.deletions ≡ length (checkpoint_deletions (state_of r) i)
    unfolding call answered checkpoint_outcome checkpoint_report
    checkpoint_count = rw e

    checkpoint_list : (call (state_of r) (checkpoint i deleted)).reply.deleted ≡ written deleted (pairs (checkpoint_deletions (state_of r) i))
    unfolding call answered checkpoint_outcome
    checkpoint_list = rw e

    checkpoint_receiver : (receiver_after h (checkpoint i deleted) ≡ (checkpointed r i).receiver) × ((lists : Lists) → underway_after n h lists (checkpoint i deleted) ≡ (checkpointed r i).transit)
    unfolding receiver_after underway_after checkpointed
    checkpoint_receiver = (g.receiver, λ lists. g.underway)

    checkpoint_hands_out : HandsOut (call (state_of r) (checkpoint i deleted)).reply r (checkpointed r i)
    unfolding HandsOut
    checkpoint_hands_out p k hp =
        let w = checkpoint_run r v fit i deleted e in
        checkpoint_handed r v few (call (state_of r) (checkpoint i deleted)).reply deleted w.2 i w.0 asked (record { deleted = checkpoint_list; counted = checkpoint_count }) p k

    checkpoint_hands_over : HandsOver (call (state_of r) (checkpoint i deleted)).reply (lent_deletions (checkpoint i deleted)) r (checkpointed r i)
    unfolding lent_deletions
    checkpoint_hands_over =
        let w = checkpoint_run r v fit i deleted e in
        checkpoint_over r v few (call (state_of r) (checkpoint i deleted)).reply deleted w.2 i w.0 asked (record { deleted = checkpoint_list; counted = checkpoint_count })

    checkpoint_pairs : pair_blocks r (call (state_of r) (checkpoint i deleted)).reply ≡ gone_in r (checkpointed r i)
    checkpoint_pairs =
        let w = checkpoint_run r v fit i deleted e in
        checkpoint_blocks r v few (call (state_of r) (checkpoint i deleted)).reply deleted w.2 i w.0 asked (record { deleted = checkpoint_list; counted = checkpoint_count })

    checkpoint_cause : cause_with h (cause_of (checkpoint i deleted)) (stored_by h (checkpoint i deleted) (call (state_of r) (checkpoint i deleted)).reply) ≡ (checkpointed r i).ledger.cause
    unfolding cause_of stored_by checkpointed
    checkpoint_cause = ap (λ (c : ℕ). cause_with h c (Some i)) (sym asked) ∙ stored_cause h r v g i

    checkpoint_stored : count_of h (stored_by h (checkpoint i deleted) (call (state_of r) (checkpoint i deleted)).reply) ≡ new_in r (checkpointed r i)
    unfolding stored_by
    checkpoint_stored = stored_count h r v g i ∙ sym (checkpointed_new r i (checkpoint_run r v fit i deleted e).0)

    pub checkpoint_step : Step n h (state_of r) r (checkpointed r i) (checkpoint i deleted)
    unfolding sends_after
    checkpoint_step = record {
      inv = checkpointed_inv r i v;
      limits = limits_checkpoint r i fit (fits_checkpoint r v i (checkpoint_run r v fit i deleted e).0 fit.ledger (omega (arith, asked)) (omega (arith, asked)) (checkpoint_run r v fit i deleted e).3);
      moved = checkpointed_moved r i (checkpoint_run r v fit i deleted e).0;
      state = checkpoint_run_state;
      lists = checkpoint_lists n h r g i deleted (call (state_of r) (checkpoint i deleted)).reply;
      sends = g.sends ∙ sym (checkpointed_last r i);
      receiver = checkpoint_receiver.0;
      underway = checkpoint_receiver.1 _;
      memory = checkpointed_memory r i memory;
      hands_out = checkpoint_hands_out;
      hands_over = checkpoint_hands_over;
      paid = checkpointed_paid r i (checkpoint_run r v fit i deleted e).0;
      cause = checkpoint_cause;
      stored = checkpoint_stored;
      blocks = checkpoint_pairs;
    }

  -- Send from i to j.
  module _ (i j : ℕ) (e : send_refusal (state_of r) i j ≡ None) where
    send_run_state : (call (state_of r) (send i j)).run ≡ state_of (sending r i j)
    unfolding call answered send_outcome
    send_run_state = rw e (send_is r i j few (send_run r v fit i j e).0)

    send_count : (call (state_of r) (send i j)).reply.report.deletions ≡ 0
    unfolding call answered send_outcome send_report
    send_count = rw e

    send_none : (call (state_of r) (send i j)).reply.deleted ≡ []
    unfolding call answered send_outcome
    send_none = rw e

    send_hands_over : HandsOver (call (state_of r) (send i j)).reply (lent_deletions (send i j)) r (sending r i j)
    unfolding lent_deletions
    send_hands_over = nothing_over r (sending r i j) (call (state_of r) (send i j)).reply send_none send_count (sending_keeps r i j)

    send_cause : cause_with h (cause_of (send i j)) (stored_by h (send i j) (call (state_of r) (send i j)).reply) ≡ (sending r i j).ledger.cause
    unfolding stored_by sending
    send_cause = none_cause h r v g (cause_of (send i j))

    send_stored : count_of h (stored_by h (send i j) (call (state_of r) (send i j)).reply) ≡ new_in r (sending r i j)
    unfolding stored_by
    send_stored = none_count h r v g ∙ sym (sending_new r i j)

    pub send_step : Step n h (state_of r) r (sending r i j) (send i j)
    send_step =
        let w = send_run r v fit i j e in
        let a = (call (state_of r) (send i j)).reply in
        record {
          inv = sending_inv r i j v w.0 w.1 w.2;
          limits = w.3;
          moved = sending_moved r i j;
          state = send_run_state;
          lists = send_lists n h r g i j a;
          sends = send_sends n h r g i j;
          receiver = send_receiver n h r g i j;
          underway = send_underway n h r g _ i j;
          memory = sending_memory r i j v memory;
          hands_out = hands_out_none a r (sending r i j) send_count (sending_keeps r i j);
          hands_over = send_hands_over;
          paid = sending_paid r i j;
          cause = send_cause;
          stored = send_stored;
          blocks = blocks_none a r (sending r i j) send_count (sending_keeps r i j);
        }

  -- Lose m.
  module _ (m : ℕ) (e : lose_refusal (state_of r) m ≡ None) where
    lose_run_state : (call (state_of r) (lose m)).run ≡ state_of (lost r m)
    unfolding call answered lose_outcome
    lose_run_state = rw e (lose_is r m)

    lose_count : (call (state_of r) (lose m)).reply.report.deletions ≡ 0
    unfolding call answered lose_outcome lose_report
    lose_count = rw e

    lose_same : (lists_after n h (lose m) (call (state_of r) (lose m)).reply ≡ (lost r m).events) × (sends_after h (lose m) ≡ (lost r m).last) × (receiver_after h (lose m) ≡ (lost r m).receiver) × ((lists : Lists) → underway_after n h lists (lose m) ≡ (lost r m).transit)
    unfolding lists_after sends_after receiver_after underway_after lost
    lose_same = (g.lists, g.sends, g.receiver, λ lists. rw g.underway)

    lose_none : (call (state_of r) (lose m)).reply.deleted ≡ []
    unfolding call answered lose_outcome
    lose_none = rw e

    lose_hands_over : HandsOver (call (state_of r) (lose m)).reply (lent_deletions (lose m)) r (lost r m)
    unfolding lent_deletions
    lose_hands_over = nothing_over r (lost r m) (call (state_of r) (lose m)).reply lose_none lose_count (lost_keeps r m)

    lose_cause : cause_with h (cause_of (lose m)) (stored_by h (lose m) (call (state_of r) (lose m)).reply) ≡ (lost r m).ledger.cause
    unfolding stored_by lost
    lose_cause = none_cause h r v g (cause_of (lose m))

    lose_stored : count_of h (stored_by h (lose m) (call (state_of r) (lose m)).reply) ≡ new_in r (lost r m)
    unfolding stored_by
    lose_stored = none_count h r v g ∙ sym (lost_new r m)

    pub lose_step : Step n h (state_of r) r (lost r m) (lose m)
    lose_step = record {
      inv = lost_inv r m v;
      limits = limits_lose r m fit;
      moved = lost_moved r m;
      state = lose_run_state;
      lists = lose_same.0;
      sends = lose_same.1;
      receiver = lose_same.2;
      underway = lose_same.3 _;
      memory = lost_memory r m memory;
      hands_out = hands_out_none (call (state_of r) (lose m)).reply r (lost r m) lose_count (lost_keeps r m);
      hands_over = lose_hands_over;
      paid = lost_paid r m;
      cause = lose_cause;
      stored = lose_stored;
      blocks = blocks_none (call (state_of r) (lose m)).reply r (lost r m) lose_count (lost_keeps r m);
    }

  -- A call that leaves the state, stores nothing and hands nothing out: nothing changes.
  module _ (c : Call) (state : (call (state_of r) c).run ≡ state_of r) (count : (call (state_of r) c).reply.report.deletions ≡ 0) (none_stored : stored_by h c (call (state_of r) c).reply ≡ None)
      (same : (lists_after n h c (call (state_of r) c).reply ≡ r.events) × (sends_after h c ≡ r.last) × (receiver_after h c ≡ r.receiver) × ((lists : Lists) → underway_after n h lists c ≡ r.transit))
      (over : HandsOver (call (state_of r) c).reply (lent_deletions c) r r) where
    unchanged_step : Step n h (state_of r) r r c
    unchanged_step = record {
      inv = v;
      limits = fit;
      moved = record { size = refl; back = λ p k lt q. q; one = λ p. inl (omega arith) };
      state = state;
      lists = same.0;
      sends = same.1;
      receiver = same.2;
      underway = same.3 _;
      memory = memory;
      hands_out = hands_out_none (call (state_of r) c).reply r r count (λ p k. refl);
      hands_over = over;
      paid = record { block_counts = refl; written = omega (arith, still_new r) };
      cause = rw none_stored (none_cause h r v g (cause_of c));
      stored = rw none_stored (none_count h r v g ∙ sym (still_new r));
      blocks = blocks_none (call (state_of r) c).reply r r count (λ p k. refl);
    }

  -- Line for F.
  module _ (F : ℕ) (lent : List ℕ) (e : line_refusal (state_of r) F lent ≡ None) where
    pub line_step : Step n h (state_of r) r r (line F lent)
    unfolding call answered line_outcome line_report lists_after sends_after receiver_after underway_after stored_by lent_deletions
    line_step = unchanged_step (line F lent) (rw e) (rw e) refl (g.lists, g.sends, g.receiver, λ lists. g.underway)
        (nothing_over r r (call (state_of r) (line F lent)).reply (rw e) (rw e) (λ p k. refl))

  -- The earliest line through named checkpoints.
  module _ (l : List Named) (lent : List ℕ) (e : earliest_refusal (state_of r) l lent ≡ None) where
    pub earliest_step : Step n h (state_of r) r r (earliest l lent)
    unfolding call answered earliest_outcome line_report lists_after sends_after receiver_after underway_after stored_by lent_deletions
    earliest_step = unchanged_step (earliest l lent) (rw e) (rw e) refl (g.lists, g.sends, g.receiver, λ lists. g.underway)
        (nothing_over r r (call (state_of r) (earliest l lent)).reply (rw e) (rw e) (λ p k. refl))

  -- Deliver m.
  module _ (m : ℕ) (deleted : List ℕ) (e : deliver_refusal (state_of r) m deleted ≡ None) where
    under : r.transit m ≡ true
    under = (deliver_run r v fit m deleted e).0

    receives : r.receiver m < r.n
    receives = (underway_proper r v m under).to

    the_message : message (state_of r) m ≡ message_of r m
    the_message = rw (deliver_run r v fit m deleted e).1

    pub value_forced : forces r m ≡ true → (call (state_of r) (deliver m deleted)).reply.report.value ≡ Some (live (r.receiver m) (process (state_of r) (r.receiver m))).index.0
    unfolding call answered deliver_outcome deliver_report deliver_answer message_of
    value_forced q = rw (e, the_message) (rw (deliver_forces r m few receives (self (r.receiver m)) ∙ q))

    pub value_plain : forces r m ≡ false → (call (state_of r) (deliver m deleted)).reply.report.value ≡ None
    unfolding call answered deliver_outcome deliver_report deliver_answer message_of
    value_plain q = rw (e, the_message) (rw (deliver_forces r m few receives (self (r.receiver m)) ∙ q))

    -- The run says that a checkpoint stored now is a forced one.
    module _ (asked : r.ledger.why ≡ forced) where
      deliver_run_state : (call (state_of r) (deliver m deleted)).run ≡ state_of (delivered r m)
      unfolding call answered deliver_outcome
      deliver_run_state = rw (e, the_message) (deliver_is r v m few receives asked under fit.ledger.paid)

      deliver_count : (call (state_of r) (deliver m deleted)).reply.report.deletions ≡ length (deliver_deletions (state_of r) (message_of r m))
      unfolding call answered deliver_outcome deliver_report deliver_answer
      deliver_count = rw (e, the_message) (by_bool (steps.forces (process (state_of r) (message_of r m).receiver) (message_of r m).vector) (λ q. rw q) (λ q. rw q))

      deliver_list : (call (state_of r) (deliver m deleted)).reply.deleted ≡ written deleted (pairs (deliver_deletions (state_of r) (message_of r m)))
      unfolding call answered deliver_outcome
      deliver_list = rw (e, the_message)

      deliver_hands_out : HandsOut (call (state_of r) (deliver m deleted)).reply r (delivered r m)
      unfolding HandsOut
      deliver_hands_out p k hp =
          deliver_handed r v few (call (state_of r) (deliver m deleted)).reply deleted (deliver_run r v fit m deleted e).2 m receives asked
          (record { deleted = deliver_list; counted = deliver_count }) p k

      deliver_pairs : pair_blocks r (call (state_of r) (deliver m deleted)).reply ≡ gone_in r (delivered r m)
      deliver_pairs =
          deliver_blocks r v few (call (state_of r) (deliver m deleted)).reply deleted (deliver_run r v fit m deleted e).2 m receives asked
          (record { deleted = deliver_list; counted = deliver_count })

      deliver_hands_over : HandsOver (call (state_of r) (deliver m deleted)).reply (lent_deletions (deliver m deleted)) r (delivered r m)
      unfolding lent_deletions
      deliver_hands_over =
          deliver_over r v few (call (state_of r) (deliver m deleted)).reply deleted (deliver_run r v fit m deleted e).2 m receives asked (record { deleted = deliver_list; counted = deliver_count })

      -- The answer says whether a checkpoint was stored.
      stored_forced : forces r m ≡ true → stored_by h (deliver m deleted) (call (state_of r) (deliver m deleted)).reply ≡ Some (r.receiver m)
      unfolding stored_by forced_at
      stored_forced q = rw (value_forced q) (ap (λ (f : ℕ → ℕ). Some (f m)) g.receiver)

      stored_plain : forces r m ≡ false → stored_by h (deliver m deleted) (call (state_of r) (deliver m deleted)).reply ≡ None
      unfolding stored_by forced_at
      stored_plain q = rw (value_plain q)

      deliver_cause : cause_with h (cause_of (deliver m deleted)) (stored_by h (deliver m deleted) (call (state_of r) (deliver m deleted)).reply) ≡ (delivered r m).ledger.cause
      unfolding cause_of
      deliver_cause = by_bool (forces r m)
          (λ q. ap (cause_with h forced) (stored_forced q) ∙ ap (λ (c : ℕ). cause_with h c (Some (r.receiver m))) (sym asked) ∙ stored_cause h r v g (r.receiver m)
          ∙ ap (λ (l : Ledger). l.cause) (sym (delivered_ledger_forced r m q)))
          (λ q. ap (cause_with h forced) (stored_plain q) ∙ none_cause h r v g forced ∙ ap (λ (l : Ledger). l.cause) (sym (delivered_ledger_plain r m q)))

      deliver_stored : count_of h (stored_by h (deliver m deleted) (call (state_of r) (deliver m deleted)).reply) ≡ new_in r (delivered r m)
      deliver_stored = by_bool (forces r m)
          (λ q. ap (count_of h) (stored_forced q) ∙ stored_count h r v g (r.receiver m) ∙ sym (delivered_new_forced r m receives q))
          (λ q. ap (count_of h) (stored_plain q) ∙ none_count h r v g ∙ sym (delivered_new_plain r m q))

      deliver_lists : lists_after n h (deliver m deleted) (call (state_of r) (deliver m deleted)).reply ≡ (delivered r m).events
      deliver_lists = by_bool (forces r m)
          (λ q. deliver_forced n h r g m deleted (call (state_of r) (deliver m deleted)).reply _ q (value_forced q))
          (λ q. deliver_plain n h r g m deleted (call (state_of r) (deliver m deleted)).reply q (value_plain q))

      pub deliver_step : Step n h (state_of r) r (delivered r m) (deliver m deleted)
      unfolding sends_after receiver_after
      deliver_step = record {
        inv = delivered_inv r m v under;
        limits = limits_deliver r m fit (fits_deliver r v m under fit.ledger asked (deliver_run r v fit m deleted e).3);
        moved = delivered_moved r v m under;
        state = deliver_run_state;
        lists = deliver_lists;
        sends = g.sends ∙ sym (delivered_last r m);
        receiver = g.receiver ∙ sym (fun_ext (delivered_receiver r m));
        underway = deliver_underway n h r g _ m deleted;
        memory = delivered_memory r m memory;
        hands_out = deliver_hands_out;
        hands_over = deliver_hands_over;
        paid = delivered_paid r m receives;
        cause = deliver_cause;
        stored = deliver_stored;
        blocks = deliver_pairs;
      }
