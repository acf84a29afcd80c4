-- An accepted recover call, as a step of the run as functions.
-- Assumes nothing.
use Rattle.std.specs.Prelude.{◌≡◌, ◌≤◌, ◌<◌}
use Rattle.laws.specs.Basics.{sym, ◌∙◌, fun_ext, List, None, ℕ, arith, length, get_or}
use Rattle.laws.specs.{Front.get_d_written, Lists.table, Tables.length_table, Tables.get_d_table}
use Rattle.model.specs.{Words.most_processes, Words.failed, Steps.recover_deletions, Steps.line_of, Refusals.recover_refusal}
use Rattle.whole_runs.specs.{Outcomes.pairs, Outcomes.written, Outcomes.recover_outcome, Outcomes.recover_report, Calls.recover, Calls.answered, Calls.call}
use Rattle.whole_runs.specs.Survival.{Surviving, lists_after, sends_after, receiver_after, underway_after, stored_by, cause_of, cause_with, count_of}
use Rattle.whole_runs.specs.Answers.{lent_deletions}
use Rattle.histories.proofs.{Run.Ideal, Run.line, Run.recovered, Invariant.Inv, Memory.Memory, Memory.recovered_memory, Keeping.recovered_moved}
use Rattle.histories.proofs.{Counted.gone_in, Counted.new_in, Counted.recovered_new, Counted.recovered_paid, Recovered.recovered_inv, Outliving.still_sent_lem}
use Rattle.model.proofs.{simulation.View.state_of, simulation.View.Limits, simulation.SoundCalls.recover_run, simulation.SoundLimits.limits_recover}
use Rattle.model.proofs.{simulation.Lines.line_is, simulation.Recover.recover_is}
use Rattle.whole_runs.proofs.{whole.Handed.pair_blocks, whole.Handed.recover_handed, whole.Handed.recover_blocks, whole.Accepted.Step}
use Rattle.whole_runs.proofs.{whole.Agreement.Agrees, whole.Agreement.HandsOut, whole.Gone.HandsOver, whole.Gone.recover_over}
use Rattle.whole_runs.proofs.whole.Listed.{recover_lists, none_cause, none_count}

module _ (n : ℕ) (h : Surviving) (r : Ideal) (v : Inv r) (fit : Limits r) (memory : Memory r) (size : r.n ≡ n) (g : Agrees h r) (F : ℕ) (deleted lent : List ℕ) (e : recover_refusal (state_of r) F deleted lent ≡ None) where
  few : r.n ≤ most_processes
  few = fit.few_processes

  recover_run_state : (call (state_of r) (recover F deleted lent)).run ≡ state_of (recovered r (failed F))
  unfolding call answered recover_outcome
  recover_run_state = rw e (recover_is r v few F fit.ledger.paid)

  recover_count : (call (state_of r) (recover F deleted lent)).reply.report.deletions ≡ length (recover_deletions (state_of r) F)
  unfolding call answered recover_outcome recover_report
  recover_count = rw e

  recover_list : (call (state_of r) (recover F deleted lent)).reply.deleted ≡ written deleted (pairs (recover_deletions (state_of r) F))
  unfolding call answered recover_outcome
  recover_list = rw e

  pub recover_line : (call (state_of r) (recover F deleted lent)).reply.line ≡ written lent (line_of (state_of r) F)
  unfolding call answered recover_outcome
  recover_line = rw e

  -- The indexes written are the line.
  pub written_line : (p : ℕ) → p < r.n → get_or (call (state_of r) (recover F deleted lent)).reply.line p 0 ≡ line r (failed F) p
  written_line p hp =
      let room = (recover_run r v fit F deleted lent e).2 in
      let long : length (table r.n (line r (failed F))) ≡ r.n = length_table r.n (line r (failed F)) in
      rw (recover_line, line_is r v few F)
      (get_d_written lent (table r.n (line r (failed F))) (omega arith) p 0 (omega arith) ∙ get_d_table r.n (line r (failed F)) p 0 hp)

  recover_hands_out : HandsOut (call (state_of r) (recover F deleted lent)).reply r (recovered r (failed F))
  unfolding HandsOut
  recover_hands_out p k hp =
      recover_handed r v few (call (state_of r) (recover F deleted lent)).reply deleted (recover_run r v fit F deleted lent e).1 F (record { deleted = recover_list; counted = recover_count }) p k hp

  recover_pairs : pair_blocks r (call (state_of r) (recover F deleted lent)).reply ≡ gone_in r (recovered r (failed F))
  recover_pairs =
      recover_blocks r v few (call (state_of r) (recover F deleted lent)).reply deleted (recover_run r v fit F deleted lent e).1 F (record { deleted = recover_list; counted = recover_count })

  recover_cause : cause_with h (cause_of (recover F deleted lent)) (stored_by h (recover F deleted lent) (call (state_of r) (recover F deleted lent)).reply) ≡ (recovered r (failed F)).ledger.cause
  unfolding stored_by recovered
  recover_cause = none_cause h r v g (cause_of (recover F deleted lent))

  recover_stored : count_of h (stored_by h (recover F deleted lent) (call (state_of r) (recover F deleted lent)).reply) ≡ new_in r (recovered r (failed F))
  unfolding stored_by
  recover_stored = none_count h r v g ∙ sym (recovered_new r v (failed F))

  recover_hands_over : HandsOver (call (state_of r) (recover F deleted lent)).reply (lent_deletions (recover F deleted lent)) r (recovered r (failed F))
  unfolding lent_deletions
  recover_hands_over =
      recover_over r v few (call (state_of r) (recover F deleted lent)).reply deleted (recover_run r v fit F deleted lent e).1 F (record { deleted = recover_list; counted = recover_count })

  recover_cut : lists_after n h (recover F deleted lent) (call (state_of r) (recover F deleted lent)).reply ≡ (recovered r (failed F)).events
  unfolding lists_after
  recover_cut = rw (← size, g.lists) (recover_lists r v (failed F) (call (state_of r) (recover F deleted lent)).reply.line written_line)

  recover_same : (sends_after h (recover F deleted lent) ≡ (recovered r (failed F)).last) × (receiver_after h (recover F deleted lent) ≡ (recovered r (failed F)).receiver)
  unfolding sends_after receiver_after recovered
  recover_same = (g.sends, g.receiver)

  -- A message that was under way still is exactly if its send still stands in the lists.
  recover_underway : underway_after n h (lists_after n h (recover F deleted lent) (call (state_of r) (recover F deleted lent)).reply) (recover F deleted lent) ≡ (recovered r (failed F)).transit
  unfolding underway_after
  recover_underway = rw (recover_cut, g.underway, ← size) (fun_ext (still_sent_lem r v (failed F)))

  pub recover_step : Step n h (state_of r) r (recovered r (failed F)) (recover F deleted lent)
  recover_step = record {
    inv = recovered_inv r v (failed F);
    limits = limits_recover r v (failed F) fit;
    moved = recovered_moved r v (failed F);
    state = recover_run_state;
    lists = recover_cut;
    sends = recover_same.0;
    receiver = recover_same.1;
    underway = recover_underway;
    memory = recovered_memory r (failed F) memory;
    hands_out = recover_hands_out;
    hands_over = recover_hands_over;
    paid = recovered_paid r v (failed F);
    cause = recover_cause;
    stored = recover_stored;
    blocks = recover_pairs;
  }
