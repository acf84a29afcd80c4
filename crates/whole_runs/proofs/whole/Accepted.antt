-- An accepted call takes a reached state to a reached state, if its step does what the run as functions does: once for all calls.
-- Assumes nothing.
use Rattle.std.specs.Prelude.{◌≡◌, ◌*◌}
use Rattle.laws.specs.Basics.{sym, ◌∙◌, ap, None, ℕ, arith, get_or, by_bool}
use Rattle.laws.specs.Sums.{sum_below}
use Rattle.model.specs.declared.{Message.Message, Run.Run}
use Rattle.model.specs.{Words.process, Steps.forces}
use Rattle.whole_runs.specs.Outcomes.{checkpoint_outcome, send_outcome, deliver_answer, deliver_outcome, message, lose_outcome, line_outcome, recover_outcome, checkpoint_report, send_report, deliver_report, lose_report, line_report, recover_report}
use Rattle.whole_runs.specs.Calls.{Call, checkpoint, send, deliver, lose, recover, line, Reply, answered, call, earliest}
use Rattle.whole_runs.specs.Survival.{Surviving, after, accepted, lists_after, sends_after, receiver_after, underway_after, cause_of, stored_by, cause_with, count_of, handed_blocks}
use Rattle.whole_runs.specs.{Earliest.earliest_outcome, Answers.lent_deletions}
use Rattle.histories.proofs.{Run.Ideal, Invariant.Inv, Keeping.Moved, Memory.Memory, Counted.gone_in, Counted.new_in, Counted.Paid, Counted.blocks_over}
use Rattle.model.proofs.simulation.View.{state_of, Limits}
use Rattle.whole_runs.proofs.{whole.Handed.pair_blocks, whole.Gone.HandsOver, whole.Reached.Reached, whole.Reached.exchange, whole.Reached.refusal}
use Rattle.whole_runs.proofs.whole.Agreement.{Agrees, Restarted, HandsOut, kept_agrees}

-- An accepted delivery reports the number 0, whether it forces or not.
delivery_report : (s : Run) (x : Message) → (deliver_report (deliver_answer s x)).refused ≡ 0
unfolding deliver_report deliver_answer
delivery_report s x = by_bool (forces (process s x.receiver) x.vector) (λ e. rw e) (λ e. rw e)

-- An accepted call reports the number 0.
pub accepted_report : (s : Run) (c : Call) → refusal s c ≡ None → (call s c).reply.report.refused ≡ 0
unfolding refusal call answered checkpoint_outcome send_outcome deliver_outcome lose_outcome line_outcome recover_outcome earliest_outcome checkpoint_report send_report lose_report line_report recover_report
accepted_report s (checkpoint i deleted) e = rw e
accepted_report s (send i j) e = rw e
accepted_report s (deliver m deleted) e = rw e (delivery_report s (message s m))
accepted_report s (lose m) e = rw e
accepted_report s (recover F deleted lent) e = rw e
accepted_report s (line F lent) e = rw e
accepted_report s (earliest l lent) e = rw e

-- So the history takes it in.
pub accepted_history : (n : ℕ) (s : Run) (h : Surviving) (c : Call) → refusal s c ≡ None → after n h (exchange s c) ≡ accepted n h c (call s c).reply
unfolding after
accepted_history n s h c e = rw (accepted_report s c e)

-- What an accepted call on the state s of a run r does, as a step of the run as functions to r'.
pub record Step (n : ℕ) (h : Surviving) (s : Run) (r r' : Ideal) (c : Call) : Type 0 where
  pub inv : Inv r'
  pub limits : Limits r'
  pub moved : Moved r r'
  pub state : (call s c).run ≡ state_of r'
  pub lists : lists_after n h c (call s c).reply ≡ r'.events
  pub sends : sends_after h c ≡ r'.last
  pub receiver : receiver_after h c ≡ r'.receiver
  pub underway : underway_after n h (lists_after n h c (call s c).reply) c ≡ r'.transit
  pub memory : Memory r'
  pub hands_out : HandsOut (call s c).reply r r'
  pub hands_over : HandsOver (call s c).reply (lent_deletions c) r r'
  -- the blocks that it stores and deletes, and the causes after it
  pub paid : Paid r r'
  pub cause : cause_with h (cause_of c) (stored_by h c (call s c).reply) ≡ r'.ledger.cause
  pub stored : count_of h (stored_by h c (call s c).reply) ≡ new_in r r'
  pub blocks : pair_blocks r (call s c).reply ≡ gone_in r r'

-- The blocks handed out, by the history's counts and by the run's.
same_blocks : (h : Surviving) (r : Ideal) (a : Reply) → h.block_counts ≡ r.ledger.block_counts → handed_blocks h a ≡ pair_blocks r a
unfolding handed_blocks
same_blocks h r a e = ap (λ (c : ℕ → ℕ). sum_below a.report.deletions (λ d. c (get_or a.deleted (2 * d) 0))) e

-- The history after the call agrees with the run after the step.
pub step_agrees : (n : ℕ) (r r' : Ideal) (h : Surviving) (c : Call) → Inv r → Agrees h r → refusal (state_of r) c ≡ None → Step n h (state_of r) r r' c
    → Agrees (after n h (exchange (state_of r) c)) r'
unfolding accepted
step_agrees n r r' h c v g e t = rw (accepted_history n (state_of r) h c e) (record {
  lists = t.lists;
  sends = t.sends;
  receiver = t.receiver;
  underway = t.underway;
  kept = λ p k hp. kept_agrees h r r' v t.inv g t.moved (lists_after n h c (call (state_of r) c).reply) t.lists (call (state_of r) c).reply t.hands_out p k (rw t.moved.size at hp);
  block_counts = g.block_counts ∙ sym t.paid.block_counts;
  cause = t.cause;
  written = omega (arith, g.written, t.stored, t.paid.written);
  deleted = omega (arith, g.deleted, same_blocks h r (call (state_of r) c).reply g.block_counts, t.blocks, t.paid.written, blocks_over r r' v t.inv t.moved t.paid.block_counts);
})

pub step_reached : (n : ℕ) (r r' : Ideal) (h : Surviving) (c : Call) → Inv r → r.n ≡ n → Agrees h r → refusal (state_of r) c ≡ None → Step n h (state_of r) r r' c
    → Restarted (after n h (exchange (state_of r) c)) r' → Reached n (call (state_of r) c).run (after n h (exchange (state_of r) c)) r'
step_reached n r r' h c v size g e t restarted = record {
  inv = t.inv;
  limits = t.limits;
  memory = t.memory;
  size = t.moved.size ∙ size;
  state = t.state;
  agrees = step_agrees n r r' h c v g e t;
  restarted = restarted;
}
