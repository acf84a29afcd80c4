-- Runs that are too long to compute: rounds in which checkpoints are stored, rolled back and stored again, by the run as functions. How many blocks they write.
-- Assumes nothing.
use Rattle.std.specs.Prelude.{◌≡◌, ◌∷◌, ◌+◌, ◌*◌, ◌≤◌, ◌<◌}
use Rattle.laws.specs.Basics.{refl, sym, ◌∙◌, ap, subst, Bool, true, false, List, [], None, ℕ, zero, suc, arith, length, replicate, pick, by_bool, by_eq}
use Rattle.laws.specs.{Truth.never_both, Update.upd_same, Update.upd_other}
use Rattle.model.specs.declared.Run.{Run}
use Rattle.model.specs.{Words.basic, Words.forced, Words.most_messages, Words.most_interval, Words.most_blocks, Words.failed, Refusals.recover_refusal}
use Rattle.histories.proofs.Run.{Ledger, Ideal, because, checkpointed, stores, sending, taken_in, taken_by, delivered, recovered, forces, rolled, line}
use Rattle.histories.proofs.{Invariant.Inv, Line.rising, Line.line_le, Line.line_fine, Line.below_rolled}
use Rattle.histories.proofs.CheckpointedViews.{checkpointed_own, checkpointed_own_other, checkpointed_vector, checkpointed_mark}
use Rattle.histories.proofs.DeliveredViews.{delivered_own_plain, delivered_mark_plain, delivered_row, delivered_transit, delivered_transit_other, delivered_last}
use Rattle.histories.proofs.RecoveredViews.{recovered_own_back, recovered_mark_back, recovered_transit}
use Rattle.model.proofs.{simulation.View.messages_of, simulation.View.state_of, simulation.View.Limits, simulation.Passing.passing_none}
use Rattle.model.proofs.simulation.Admitted.{checkpoint_admitted, send_admitted, deliver_admitted}
use Rattle.model.proofs.simulation.Rollback.{own_after_le}
use Rattle.whole_runs.specs.Calls.{Call, checkpoint, send, deliver, recover, call, answered}
use Rattle.whole_runs.specs.Survival.{Surviving, after}
use Rattle.whole_runs.proofs.{whole.Reached.Reached, whole.Reached.exchange, whole.Reached.refusal, whole.Runs.stepped}
use Rattle.whole_runs.proofs.WholeRuns.{accepted_reached, reached_line}
use Rattle.theory_tables.specs.Exam.{deletion_list, line_list}
use Rattle.theory_roles.specs.Console.{may, entitled, entitled_by, entitled_message, entitled_message_by, denied, denied_process, denied_message, console_checkpoint, console_send, console_deliver, console_recover}
use Rattle.theory_roles.specs.{Runs.ConsoleCall, Runs.console_answered, Runs.console_call, Runs.state_after_console, Real.operators, Real.round, Real.rounds}
use Rattle.theory_roles.proofs.Lists.{after_append}

-- A state that stands for a run of three processes, whatever its history.
pub data At (s : Run) (r : Ideal) : Type 0 where
  at : (h : Surviving) → Reached 3 s h r → At s r

-- An operator's accepted call is its step.
pub call_at : (s : Run) (r : Ideal) → At s r → (k : Call) → refusal (state_of r) k ≡ None → At (call s k).run (stepped r k)
call_at s r (at h v) k e = at (after 3 h (exchange s k)) (accepted_reached 3 s h r v k e)

pub inv_at : (s : Run) (r : Ideal) → At s r → Inv r
inv_at s r (at h v) = v.inv

pub limits_at : (s : Run) (r : Ideal) → At s r → Limits r
limits_at s r (at h v) = v.limits

pub size_at : (s : Run) (r : Ideal) → At s r → r.n ≡ 3
size_at s r (at h v) = v.size

-- What the rounds keep of the run: process 1 is in interval 1 + k, and has not sent; process 0 is as at the start; nothing is under way; that many messages were sent, so
-- many blocks written.
pub record Stage (r : Ideal) (k c w : ℕ) : Type 0 where
  pub own : r.own 1 ≡ 1 + k
  pub mark : r.mark 1 ≡ false
  pub early : r.own 0 ≤ 1
  pub still : (m : ℕ) → r.transit m ≡ false
  pub last : r.last ≡ c
  pub written : r.ledger.written ≡ w
  pub block_counts : r.ledger.block_counts 1 ≡ 65_535
  pub tenants : r.ledger.block_counts 0 ≡ 65_535

-- After the message, process 1 knows process 2's current interval.
abbrev Knows : Ideal → Type 0
Knows r = r.own 2 ≤ r.vector 1 1 2

pub deletion_room : (r : Ideal) → r.n ≡ 3 → 2 * r.n * r.n ≤ length (deletion_list 3)
deletion_room r e = rw e (omega arith)

-- A checkpoint of process 1.
module _ (s : Run) (r : Ideal) (a : At s r) (k c w : ℕ) (g : Stage r k c w) (early : 1 + k < most_interval) (blocks : w + 65_535 ≤ most_blocks) where
  checkpoint_on : At (call s (checkpoint 1 (deletion_list 3))).run (checkpointed (because basic r) 1)
  unfolding stepped refusal
  checkpoint_on = call_at s r a (checkpoint 1 (deletion_list 3)) (checkpoint_admitted r (inv_at s r a) (limits_at s r a) 1 (deletion_list 3)
      (omega (arith, size_at s r a)) (omega (arith, g.own)) (deletion_room r (size_at s r a)) (omega (arith, g.written, g.block_counts)))

  checkpoint_stage : Stage (checkpointed (because basic r) 1) (suc k) c (w + 65_535)
  unfolding checkpointed stores
  checkpoint_stage = record {
    own = checkpointed_own (because basic r) 1 ∙ ap suc g.own ∙ omega arith;
    mark = checkpointed_mark (because basic r) 1;
    early = omega (arith, checkpointed_own_other (because basic r) 1 0 (omega arith), g.early);
    still = g.still;
    last = g.last;
    written = omega (arith, g.written, g.block_counts);
    block_counts = g.block_counts;
    tenants = g.tenants;
  }

-- It leaves what process 1 knew.
checkpoint_knows : (s : Run) (r : Ideal) → At s r → (k c w : ℕ) → Stage r k c w → Knows r → Knows (checkpointed (because basic r) 1)
checkpoint_knows s r a k c w g h = omega (arith, h, checkpointed_own_other (because basic r) 1 2 (omega arith), checkpointed_vector (because basic r) 1 1 1 2 (omega (arith, g.own)))

-- The message of process 2 to process 1, sent and delivered.
module _ (s : Run) (r : Ideal) (a : At s r) (c w : ℕ) (g : Stage r 0 c w) (numbers : c < most_messages) where
  nothing_under_way : length (messages_of r) ≡ 0
  unfolding messages_of
  nothing_under_way = ap length (passing_none (suc r.last) r.transit _ (λ m lt. g.still m))

  send_on : At (call s (send 2 1)).run (sending r 2 1)
  unfolding stepped refusal
  send_on = call_at s r a (send 2 1) (send_admitted r (inv_at s r a) (limits_at s r a) 2 1
      (omega (arith, size_at s r a)) (omega (arith, size_at s r a)) (omega arith) (omega (arith, nothing_under_way)) (omega (arith, g.last)))

  abbrev sent_run : Ideal
  sent_run = because forced (sending r 2 1)

  is_under_way : (sending r 2 1).transit (suc c) ≡ true
  unfolding sending
  is_under_way = rw g.last (upd_same r.transit (suc c) true)

  to_one : (sending r 2 1).receiver (suc c) ≡ 1
  unfolding sending
  to_one = rw g.last (upd_same r.receiver (suc c) 1)

  unmarked : (sending r 2 1).mark 1 ≡ false
  unfolding sending
  unmarked = upd_other r.mark 2 true 1 (omega arith) ∙ g.mark

  not_forced : forces (sending r 2 1) (suc c) ≡ false
  unfolding forces
  not_forced = rw (to_one, unmarked)

  not_forced_either : forces sent_run (suc c) ≡ false
  unfolding forces
  not_forced_either = rw (to_one, unmarked)

  own_same : (p : ℕ) → (sending r 2 1).own p ≡ r.own p
  unfolding sending
  own_same p = refl

  deliver_on : At (call (call s (send 2 1)).run (deliver (suc c) (deletion_list 3))).run (delivered sent_run (suc c))
  unfolding stepped refusal
  deliver_on = call_at (call s (send 2 1)).run (sending r 2 1) send_on (deliver (suc c) (deletion_list 3))
      (deliver_admitted (sending r 2 1) (inv_at _ _ send_on) (limits_at _ _ send_on) (suc c) (deletion_list 3) is_under_way (deletion_room (sending r 2 1) (size_at _ _ send_on))
      (λ e. never_both (forces (sending r 2 1) (suc c)) e not_forced) (λ e. never_both (forces (sending r 2 1) (suc c)) e not_forced))

  still_sent_lem : (m : ℕ) → (m ≡ suc c → ⊥) → (sending r 2 1).transit m ≡ false
  unfolding sending
  still_sent_lem m ne = rw g.last (upd_other r.transit (suc c) true m ne ∙ g.still m)

  ledger_same : (delivered sent_run (suc c)).ledger.written ≡ r.ledger.written
  unfolding delivered taken_in taken_by sending
  ledger_same = ap (λ (b : Bool). (pick b (checkpointed sent_run (sent_run.receiver (suc c))) sent_run).ledger.written) not_forced_either

  counts_same : (p : ℕ) → (delivered sent_run (suc c)).ledger.block_counts p ≡ r.ledger.block_counts p
  unfolding delivered taken_in taken_by sending
  counts_same p = ap (λ (b : Bool). (pick b (checkpointed sent_run (sent_run.receiver (suc c))) sent_run).ledger.block_counts p) not_forced_either

  sent_last : (sending r 2 1).last ≡ suc c
  unfolding sending
  sent_last = ap suc g.last

  deliver_stage : Stage (delivered sent_run (suc c)) 0 (suc c) w
  deliver_stage = record {
    own = delivered_own_plain sent_run (suc c) not_forced_either 1 ∙ own_same 1 ∙ g.own;
    mark = delivered_mark_plain sent_run (suc c) not_forced_either 1 ∙ unmarked;
    early = omega (arith, delivered_own_plain sent_run (suc c) not_forced_either 0, own_same 0, g.early);
    still = λ m. by_eq m (suc c)
        (λ e. rw e (delivered_transit sent_run (suc c)))
        (λ ne. delivered_transit_other sent_run (suc c) m ne ∙ still_sent_lem m ne);
    last = delivered_last sent_run (suc c) ∙ sent_last;
    written = ledger_same ∙ g.written;
    block_counts = counts_same 1 ∙ g.block_counts;
    tenants = counts_same 0 ∙ g.tenants;
  }

  carries_own : (sending r 2 1).carried (suc c) 2 ≡ r.own 2
  unfolding sending
  carries_own = rw g.last (ap (λ (f : ℕ → ℕ). f 2) (upd_same r.carried (suc c) (r.vector 2 (r.own 2))) ∙ (inv_at s r a).self 2 (r.own 2) (omega arith))

  deliver_knows : Knows (delivered sent_run (suc c))
  deliver_knows =
      let row = delivered_row sent_run (suc c) 2 (λ e. omega (arith, e, to_one)) in
      let row' = rw to_one at row in
      let own₁ = delivered_own_plain sent_run (suc c) not_forced_either 1 ∙ own_same 1 ∙ g.own in
      let row'' = rw own₁ at row' in
      omega (arith, row'', carries_own, delivered_own_plain sent_run (suc c) not_forced_either 2, own_same 2)

-- Process 2 fails: process 1 goes back to its checkpoint 0.
recover_accepted : (s : Run) (r : Ideal) → At s r → refusal (state_of r) (recover 4 (deletion_list 3) (line_list 3)) ≡ None
unfolding refusal
recover_accepted s r (at h v) =
    subst (λ (t : Run). recover_refusal t 4 (deletion_list 3) (line_list 3) ≡ None) v.state
    ((reached_line 3 s h r v 4 (omega arith)).recover_accepted (deletion_list 3) (line_list 3) (omega arith) (omega arith))

module _ (s : Run) (r : Ideal) (a : At s r) (k c w : ℕ) (g : Stage r k c w) (knows : Knows r) where
  abbrev back : Ideal
  back = recovered r (failed 4)

  recover_on : At (call s (recover 4 (deletion_list 3) (line_list 3))).run back
  unfolding stepped
  recover_on = call_at s r a (recover 4 (deletion_list 3) (line_list 3)) (recover_accepted s r a)

  -- No later state of process 1 passes the rule.
  to_zero : line r (failed 4) 1 ≡ 0
  to_zero = by_eq (line r (failed 4) 1) 0 (λ e. e) (λ ne. absurd (
      let fine = line_fine r (inv_at s r a) (failed 4) 1 2 (omega (arith, size_at s r a)) refl in
      omega (arith, fine, knows, rising r (inv_at s r a) 1 2 1 (line r (failed 4) 1) (omega (arith, ne)) (line_le r (inv_at s r a) (failed 4) 1))))

  goes_back : rolled r (failed 4) 1 ≡ true
  goes_back = below_rolled r (inv_at s r a) (failed 4) 1 (omega (arith, to_zero, g.own))

  ledger_back : back.ledger ≡ r.ledger
  unfolding recovered
  ledger_back = refl

  last_back : back.last ≡ r.last
  unfolding recovered
  last_back = refl

  early_back : back.own 0 ≤ r.own 0
  unfolding recovered
  early_back = own_after_le r (inv_at s r a) (failed 4) 0

  recover_stage : Stage back 0 c w
  recover_stage = record {
    own = recovered_own_back r (failed 4) 1 goes_back ∙ ap suc to_zero;
    mark = recovered_mark_back r (failed 4) 1 goes_back;
    early = omega (arith, early_back, g.early);
    still = λ m. by_bool (back.transit m) (λ e. never_both (r.transit m) (recovered_transit r (failed 4) m e).0 (g.still m)) (λ e. e);
    last = last_back ∙ g.last;
    written = ap (λ (l : Ledger). l.written) ledger_back ∙ g.written;
    block_counts = ap (λ (l : Ledger). l.block_counts 1) ledger_back ∙ g.block_counts;
    tenants = ap (λ (l : Ledger). l.block_counts 0) ledger_back ∙ g.tenants;
  }

-- What the console makes of an operator's calls.
module _ (s : Run) where
  by_checkpoint : (i : ℕ) (lent : List ℕ) → (console_call s (operators (checkpoint i lent))).run ≡ (call s (checkpoint i lent)).run
  unfolding console_call console_answered call answered console_checkpoint denied_process entitled entitled_by may
  by_checkpoint i lent = refl

  pub by_send : (i j : ℕ) → (console_call s (operators (send i j))).run ≡ (call s (send i j)).run
  unfolding console_call console_answered call answered console_send denied_process entitled entitled_by may
  by_send i j = refl

  by_deliver : (m : ℕ) (lent : List ℕ) → (console_call s (operators (deliver m lent))).run ≡ (call s (deliver m lent)).run
  unfolding console_call console_answered call answered console_deliver denied_message entitled_message entitled_message_by may
  by_deliver m lent = refl

  by_recover : (F : ℕ) (deleted lent : List ℕ) → (console_call s (operators (recover F deleted lent))).run ≡ (call s (recover F deleted lent)).run
  unfolding console_call console_answered call answered console_recover denied may
  by_recover F deleted lent = refl

-- A state that has come so far, and what else is known of its run.
pub record Come (Q : Ideal → Type 0) (s : Run) (k c w : ℕ) : Type 0 where
  pub run : Ideal
  pub stands : At s run
  pub stage : Stage run k c w
  pub also : Q run

-- Checkpoints of process 1, one after the other. What else is known is kept by each.
abbrev pub stores_one : ConsoleCall
stores_one = operators (checkpoint 1 (deletion_list 3))

module _ (Q : Ideal → Type 0) (keep : (s : Run) (r : Ideal) → At s r → (k c w : ℕ) → Stage r k c w → Q r → Q (checkpointed (because basic r) 1)) where
  one_more : (s : Run) (k c w : ℕ) → 1 + k < most_interval → w + 65_535 ≤ most_blocks → Come Q s k c w → Come Q (console_call s stores_one).run (suc k) c (w + 65_535)
  one_more s k c w early blocks x = subst (λ (t : Run). Come Q t (suc k) c (w + 65_535)) (sym (by_checkpoint s 1 (deletion_list 3))) (record {
    run = checkpointed (because basic x.run) 1;
    stands = checkpoint_on s x.run x.stands k c w x.stage early blocks;
    stage = checkpoint_stage s x.run x.stands k c w x.stage early blocks;
    also = keep s x.run x.stands k c w x.stage x.also;
  })

  pub many_more : (j : ℕ) (s : Run) (k c w : ℕ) → k + j < most_interval → w + j * 65_535 ≤ most_blocks → Come Q s k c w
      → Come Q (state_after_console s (replicate j stores_one)) (k + j) c (w + j * 65_535)
  unfolding state_after_console
  many_more zero s k c w early blocks x = subst (λ (z : ℕ). Come Q s z c (w + 0 * 65_535)) (omega arith) (subst (λ (z : ℕ). Come Q s k c z) (omega arith) x)
  many_more (suc j) s k c w early blocks x =
      subst (λ (z : ℕ). Come Q (state_after_console (console_call s stores_one).run (replicate j stores_one)) z c (w + suc j * 65_535)) (omega arith)
      (subst (λ (z : ℕ). Come Q (state_after_console (console_call s stores_one).run (replicate j stores_one)) (suc k + j) c z) (omega arith)
      (many_more j (console_call s stores_one).run (suc k) c (w + 65_535) (omega arith) (omega arith) (one_more s k c w (omega arith) (omega arith) x)))

-- A round.
abbrev pub Any : Ideal → Type 0
Any r = Unit {0}

module _ (k c w : ℕ) (early : k < most_interval) (numbers : c < most_messages) (blocks : w + k * 65_535 ≤ most_blocks) (s : Run) (x : Come Any s 0 c w) where
  abbrev sent_state : Run
  sent_state = (console_call s (operators (send 2 1))).run

  abbrev taken_state : Run
  taken_state = (console_call sent_state (operators (deliver (suc c) (deletion_list 3)))).run

  taken_is : taken_state ≡ (call (call s (send 2 1)).run (deliver (suc c) (deletion_list 3))).run
  taken_is = by_deliver sent_state (suc c) (deletion_list 3) ∙ ap (λ (t : Run). (call t (deliver (suc c) (deletion_list 3))).run) (by_send s 2 1)

  taken : Come Knows taken_state 0 (suc c) w
  taken = subst (λ (t : Run). Come Knows t 0 (suc c) w) (sym taken_is) (record {
    run = delivered (sent_run s x.run x.stands c w x.stage numbers) (suc c);
    stands = deliver_on s x.run x.stands c w x.stage numbers;
    stage = deliver_stage s x.run x.stands c w x.stage numbers;
    also = deliver_knows s x.run x.stands c w x.stage numbers;
  })

  abbrev full_state : Run
  full_state = state_after_console taken_state (replicate k stores_one)

  full : Come Knows full_state (0 + k) (suc c) (w + k * 65_535)
  full = many_more Knows checkpoint_knows k taken_state 0 (suc c) w (omega arith) blocks taken

  round_over : Come Any (console_call full_state (operators (recover 4 (deletion_list 3) (line_list 3)))).run 0 (suc c) (w + k * 65_535)
  round_over = subst (λ (t : Run). Come Any t 0 (suc c) (w + k * 65_535)) (sym (by_recover full_state 4 (deletion_list 3) (line_list 3))) (record {
    run = recovered full.run (failed 4);
    stands = recover_on full_state full.run full.stands (0 + k) (suc c) (w + k * 65_535) full.stage full.also;
    stage = recover_stage full_state full.run full.stands (0 + k) (suc c) (w + k * 65_535) full.stage full.also;
    also = tt;
  })

  one_round : Come Any (state_after_console s (round k (suc c))) 0 (suc c) (w + k * 65_535)
  unfolding round state_after_console
  one_round = subst (λ (t : Run). Come Any t 0 (suc c) (w + k * 65_535)) (sym (after_append taken_state (replicate k stores_one) (operators (recover 4 (deletion_list 3) (line_list 3)) ∷ []))) round_over

-- Rounds of 15,259 checkpoints each, which write 999,998,565 blocks.
pub many_rounds : (c w : ℕ) (s : Run) → c ≤ most_messages → w + c * 999_998_565 ≤ most_blocks → Come Any s 0 0 w → Come Any (state_after_console s (rounds 15_259 c)) 0 c (w + c * 999_998_565)
unfolding rounds state_after_console
many_rounds zero w s numbers blocks x = subst (λ (z : ℕ). Come Any s 0 0 z) (omega arith) x
many_rounds (suc c) w s numbers blocks x =
    subst (λ (t : Run). Come Any t 0 (suc c) (w + suc c * 999_998_565)) (sym (after_append s (rounds 15_259 c) (round 15_259 (suc c))))
    (subst (λ (z : ℕ). Come Any (state_after_console (state_after_console s (rounds 15_259 c)) (round 15_259 (suc c))) 0 (suc c) z) (omega arith)
    (one_round 15_259 c (w + c * 999_998_565) (omega arith) (omega arith) (omega arith) (state_after_console s (rounds 15_259 c)) (many_rounds c w s (omega arith) (omega arith) x)))
