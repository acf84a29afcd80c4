-- What a reply holds besides its number and its pairs: of a refused call nothing new; of an accepted one its value and its line list, by the
-- surviving history, and the set of entries that rose.
-- Assumes nothing.
use Rattle.std.specs.Prelude.{◌≡◌, ◌+◌, ◌≤◌, ◌<◌}
use Rattle.laws.specs.Basics.{refl, sym, ◌∙◌, ap, List, None, Some, ℕ, arith, ltb, length, get_or, by_bool}
use Rattle.laws.specs.{Counting.count_same, Front.get_d_written, Front.written_front, Lists.table, Tables.length_table, Tables.get_d_table, Tables.table_same}
use Rattle.laws.specs.Tests.{count_below}
use Rattle.model.specs.declared.{Named.Named, Run.Run, Refusal.Refusal}
use Rattle.model.specs.{Words.most_processes, Words.failed, Steps.deliver_risen, Steps.rolled_back, Steps.rolled_back_count, laws.Refusals.by_refusal}
use Rattle.histories.specs.History.{Line}
use Rattle.model.specs.Refusals.{checkpoint_refusal, send_refusal, deliver_refusal, lose_refusal, line_refusal, recover_refusal}
use Rattle.whole_runs.specs.Outcomes.{written, checkpoint_outcome, send_outcome, deliver_outcome, lose_outcome, line_outcome, recover_outcome, checkpoint_report, send_report, deliver_report, lose_report, line_report, recover_report}
use Rattle.whole_runs.specs.{Earliest.greatest, Earliest.earliest_line, Earliest.earliest_refusal, Earliest.earliest_outcome, Survival.Surviving}
use Rattle.whole_runs.specs.Calls.{Call, checkpoint, send, deliver, lose, recover, line, earliest, answered, call}
use Rattle.whole_runs.specs.Answers.{value_of, lent_deletions, lent_line, at_front, indexes_of}
use Rattle.histories.proofs.{Run.Ideal, Run.forces, Invariant.Inv, Memory.Memory, Messages.underway_proper}
use Rattle.model.proofs.{simulation.View.message_of, simulation.View.state_of, simulation.View.Limits, simulation.Checkpoint.checkpoint_index}
use Rattle.model.proofs.{simulation.Reads.count_is_lem, simulation.Reads.last_is_lem, simulation.Reads.own_is, simulation.Deliver.deliver_index}
use Rattle.model.proofs.simulation.Lines.{member_index, line_is}
use Rattle.model.proofs.simulation.SoundCalls.{checkpoint_run, deliver_run, line_run, recover_run}
use Rattle.whole_runs.proofs.{whole.EarliestLine.earliest_out, whole.Agreement.Agrees, whole.Reached.refusal, whole.Recovers.written_line}
use Rattle.whole_runs.proofs.{whole.Agreement.live_is, whole.Refused.forcing_of, whole.Steps.value_forced, whole.Steps.value_plain}
use Rattle.histories.proofs.Run as ideal

-- A refused call reports no value and no deletion, its lent lists keep every entry, and no entry rose.
pub refused_reply : (s : Run) (c : Call) (x : Refusal) → refusal s c ≡ Some x
    → ((call s c).reply.report.value ≡ None) × ((call s c).reply.report.deletions ≡ 0) × ((call s c).reply.deleted ≡ lent_deletions c) × ((call s c).reply.line ≡ lent_line c)
    × ((call s c).reply.rose ≡ 0)
unfolding refusal call answered checkpoint_outcome send_outcome deliver_outcome lose_outcome line_outcome recover_outcome earliest_outcome checkpoint_report send_report deliver_report lose_report line_report recover_report lent_deletions lent_line
refused_reply s (checkpoint i deleted) x e = (rw e, rw e, rw e, rw e, rw e)
refused_reply s (send i j) x e = (rw e, rw e, rw e, rw e, rw e)
refused_reply s (deliver m deleted) x e = (rw e, rw e, rw e, rw e, rw e)
refused_reply s (lose m) x e = (rw e, rw e, rw e, rw e, rw e)
refused_reply s (recover F deleted lent) x e = (rw e, rw e, rw e, rw e, rw e)
refused_reply s (line F lent) x e = (rw e, rw e, rw e, rw e, rw e)
refused_reply s (earliest l lent) x e = (rw e, rw e, rw e, rw e, rw e)

-- Only a delivery says that entries rose.
pub others_rose : (s : Run) (c : Call) → ((m : ℕ) (deleted : List ℕ) → c ≡ deliver m deleted → ⊥) → (call s c).reply.rose ≡ 0
unfolding call answered checkpoint_outcome send_outcome lose_outcome line_outcome recover_outcome earliest_outcome
others_rose s (checkpoint i deleted) other = by_refusal (checkpoint_refusal s i deleted) (λ e. rw e) (λ x e. rw e)
others_rose s (send i j) other = by_refusal (send_refusal s i j) (λ e. rw e) (λ x e. rw e)
others_rose s (deliver m deleted) other = absurd (other m deleted refl)
others_rose s (lose m) other = by_refusal (lose_refusal s m) (λ e. rw e) (λ x e. rw e)
others_rose s (recover F deleted lent) other = by_refusal (recover_refusal s F deleted lent) (λ e. rw e) (λ x e. rw e)
others_rose s (line F lent) other = by_refusal (line_refusal s F lent) (λ e. rw e) (λ x e. rw e)
others_rose s (earliest l lent) other = by_refusal (earliest_refusal s l lent) (λ e. rw e) (λ x e. rw e)

module _ (h : Surviving) (r : Ideal) (v : Inv r) (fit : Limits r) (memory : Memory r) (g : Agrees h r) where
  few : r.n ≤ most_processes
  few = fit.few_processes

  own_entry : (p : ℕ) → r.vector p (r.own p) p ≡ r.own p
  own_entry p = v.self p (r.own p) (omega arith)

  module _ (i : ℕ) (deleted : List ℕ) (e : checkpoint_refusal (state_of r) i deleted ≡ None) where
    checkpoint_value : (call (state_of r) (checkpoint i deleted)).reply.report.value ≡ Some (r.own i)
    unfolding call answered checkpoint_outcome checkpoint_report
    checkpoint_value = rw e (ap Some (checkpoint_index r i few (checkpoint_run r v fit i deleted e).0 (own_entry i)))

  module _ (i j : ℕ) (e : send_refusal (state_of r) i j ≡ None) where
    send_value : (call (state_of r) (send i j)).reply.report.value ≡ Some (r.last + 1)
    unfolding call answered send_outcome send_report
    send_value = rw e (ap (λ (k : ℕ). Some (k + 1)) (last_is_lem r))

  module _ (m : ℕ) (e : lose_refusal (state_of r) m ≡ None) where
    lose_value : (call (state_of r) (lose m)).reply.report.value ≡ None
    unfolding call answered lose_outcome lose_report
    lose_value = rw e

  module _ (F : ℕ) (lent : List ℕ) (e : line_refusal (state_of r) F lent ≡ None) where
    line_value : (call (state_of r) (line F lent)).reply.report.value ≡ None
    unfolding call answered line_outcome line_report
    line_value = rw e

    line_written : (call (state_of r) (line F lent)).reply.line ≡ written lent (table r.n (ideal.line r (failed F)))
    unfolding call answered line_outcome
    line_written = rw e (ap (λ (l : List ℕ). written lent l) (line_is r v few F))

  module _ (l : List Named) (lent : List ℕ) (e : earliest_refusal (state_of r) l lent ≡ None) where
    earliest_value : (call (state_of r) (earliest l lent)).reply.report.value ≡ None
    unfolding call answered earliest_outcome line_report
    earliest_value = rw e

    pub earliest_written : (call (state_of r) (earliest l lent)).reply.line ≡ written lent (table r.n (greatest (state_of r) l))
    unfolding call answered earliest_outcome earliest_line
    earliest_written = rw e (ap (λ (c : ℕ). written lent (table c (greatest (state_of r) l))) (count_is_lem r))

    pub earliest_room : r.n ≤ length lent
    earliest_room = rw (count_is_lem r) at (earliest_out (state_of r) l lent e).room

  module _ (F : ℕ) (deleted lent : List ℕ) (e : recover_refusal (state_of r) F deleted lent ≡ None) where
    recover_value : (call (state_of r) (recover F deleted lent)).reply.report.value ≡ Some (rolled_back_count (state_of r) F)
    unfolding call answered recover_outcome recover_report
    recover_value = rw e

    recover_written : (call (state_of r) (recover F deleted lent)).reply.line ≡ written lent (table r.n (ideal.line r (failed F)))
    unfolding call answered recover_outcome
    recover_written = rw e (ap (λ (l : List ℕ). written lent l) (line_is r v few F))

    -- A process rolls back exactly if the index written for it is that of a checkpoint in its list.
    rolled_written : (p : ℕ) → p < r.n → rolled_back (state_of r) F p ≡ ltb (get_or (call (state_of r) (recover F deleted lent)).reply.line p 0) (r.own p)
    unfolding rolled_back
    rolled_written p hp = rw (written_line r.n h r v fit memory refl g F deleted lent e p hp, member_index r v few F p hp, own_is r p few hp (own_entry p))

    recover_count : rolled_back_count (state_of r) F ≡ count_below r.n (λ p. ltb (get_or (call (state_of r) (recover F deleted lent)).reply.line p 0) (r.own p))
    unfolding rolled_back_count
    recover_count = ap (λ (c : ℕ). count_below c (rolled_back (state_of r) F)) (count_is_lem r) ∙ count_same r.n _ _ rolled_written

  deliver_value : (m : ℕ) (deleted : List ℕ) → deliver_refusal (state_of r) m deleted ≡ None
      → (call (state_of r) (deliver m deleted)).reply.report.value ≡ value_of r.n h (forces r m) (deliver m deleted) (call (state_of r) (deliver m deleted)).reply.line
  unfolding value_of
  deliver_value m deleted e =
      let hi : r.receiver m < r.n = (underway_proper r v m (deliver_run r v fit m deleted e).0).to in
      rw (live_is h r v g (h.receiver m), g.receiver) (by_bool (forces r m)
      (λ q. rw q (value_forced r.n h r v fit memory refl g m deleted e q ∙ ap Some (deliver_index r m few hi (own_entry (r.receiver m)))))
      (λ q. rw q (value_plain r.n h r v fit memory refl g m deleted e q)))

  -- The set of entries that rose at an accepted delivery.
  pub deliver_rose : (m : ℕ) (deleted : List ℕ) → deliver_refusal (state_of r) m deleted ≡ None → (call (state_of r) (deliver m deleted)).reply.rose ≡ deliver_risen (state_of r) (message_of r m)
  unfolding call answered deliver_outcome
  deliver_rose m deleted e = rw (e, (deliver_run r v fit m deleted e).1)

  -- The value of an accepted call.
  pub value_right : (c : Call) → refusal (state_of r) c ≡ None → (call (state_of r) c).reply.report.value ≡ value_of r.n h (forcing_of r c) c (call (state_of r) c).reply.line
  unfolding refusal forcing_of value_of
  value_right (checkpoint i deleted) e = rw (live_is h r v g i) (checkpoint_value i deleted e)
  value_right (send i j) e = rw g.sends (send_value i j e)
  value_right (deliver m deleted) e = deliver_value m deleted e
  value_right (lose m) e = lose_value m e
  value_right (recover F deleted lent) e = recover_value F deleted lent e ∙ ap Some (recover_count F deleted lent e
      ∙ count_same r.n _ _ (λ p hp. rw (live_is h r v g p)))
  value_right (line F lent) e = line_value F lent e
  value_right (earliest l lent) e = earliest_value l lent e

  -- A line list with n indexes written to its front.
  front_line : (l lent : List ℕ) (w : Line) → r.n ≤ length lent → l ≡ written lent (table r.n w) → l ≡ at_front (table r.n (λ p. get_or l p 0)) lent
  front_line l lent w room e =
      let long : length (table r.n w) ≡ r.n = length_table r.n w in
      let same : table r.n (λ p. get_or l p 0) ≡ table r.n w = table_same r.n (λ p. get_or l p 0) w
      (λ p hp. ap (λ (k : List ℕ). get_or k p 0) e ∙ get_d_written lent (table r.n w) (omega arith) p 0 (omega arith) ∙ get_d_table r.n w p 0 hp) in
      e ∙ written_front lent (table r.n w) (omega arith) ∙ ap (λ (k : List ℕ). at_front k lent) (sym same)

  -- The line list of an accepted call.
  pub line_list_right : (c : Call) → refusal (state_of r) c ≡ None → (call (state_of r) c).reply.line ≡ at_front (indexes_of r.n c (call (state_of r) c).reply.line) (lent_line c)
  unfolding refusal indexes_of lent_line call answered checkpoint_outcome send_outcome deliver_outcome lose_outcome
  line_list_right (checkpoint i deleted) e = rw e
  line_list_right (send i j) e = rw e
  line_list_right (deliver m deleted) e = rw e
  line_list_right (lose m) e = rw e
  line_list_right (recover F deleted lent) e =
      front_line (call (state_of r) (recover F deleted lent)).reply.line lent (ideal.line r (failed F)) (recover_run r v fit F deleted lent e).2 (recover_written F deleted lent e)
  line_list_right (line F lent) e = front_line (call (state_of r) (line F lent)).reply.line lent (ideal.line r (failed F)) (line_run r v fit F lent e).1 (line_written F lent e)
  line_list_right (earliest l lent) e = front_line (call (state_of r) (earliest l lent)).reply.line lent (greatest (state_of r) l) (earliest_room l lent e) (earliest_written l lent e)
