-- States that console calls reach are states that the library's calls reach, and the console's history is theirs: demand 3 holds there.
-- Assumes nothing.
use Rattle.std.specs.Prelude.{◌≡◌, ◌∷◌, ◌++◌, ◌⊎◌, Err, Ok}
use Rattle.laws.specs.Basics.{refl, sym, subst, List, [], None, inl, inr, ℕ, arith, by_bool}
use Rattle.laws.specs.Loops.{either}
use Prim.{tt}
use Rattle.model.specs.Shapes.{StartAnswer}
use Rattle.model.specs.declared.{Run.Run, Refusal.Refusal}
use Rattle.model.specs.{Refusals.number, Refusals.start_refusal, Refusals.line_refusal, laws.Refusals.by_refusal}
use Rattle.whole_runs.specs.Outcomes.{start_outcome, line_outcome, checkpoint_report, send_report, deliver_report, lose_report, line_report, recover_report}
use Rattle.whole_runs.specs.Calls.{Call, checkpoint, send, deliver, lose, recover, line, earliest, Reply, Answered, answered, call, Exchange}
use Rattle.whole_runs.specs.Survival.{Surviving, beginning, after, surviving_from, surviving, accepted, lists_after, restart_after, sends_after, receiver_after, underway_after, kept_after, handed_out_of, stored_by, cause_with, count_of, handed_blocks}
use Rattle.whole_runs.specs.WholeRuns.{Reachable}
use Rattle.histories.proofs.Run.{Ideal, begun}
use Rattle.model.proofs.simulation.View.{state_of}
use Rattle.whole_runs.proofs.{whole.Reached.Reached, whole.Reached.exchange, whole.Reached.refusal, whole.Runs.stepped, whole.Runs.unless_refused}
use Rattle.whole_runs.proofs.whole.BlocksRight.{reached_blocks}
use Rattle.whole_runs.proofs.WholeRuns.{start_reached, call_reached, reached_line, reached_kept, reached_answer, reachable_start, reachable_call}
use Rattle.theory_roles.specs.declared.Caller.{Caller}
use Rattle.theory_roles.specs.declared.Operation.TheVariants.{Start, Checkpoint, Send, Deliver, Lose, Recover, Line, Earliest, List as Listing, Counts}
use Rattle.theory_roles.specs.Console.{denied, denied_process, denied_message, console_start, console_checkpoint, console_send, console_deliver, console_lose, console_recover, console_line, console_earliest, console_list, console_counts, list_refusal, counts_refusal, shown}
use Rattle.theory_roles.specs.Runs.{Asked, made, list, counts, ConsoleCall, console_answered, console_call, state_after_console, exchanged, console_transcript, console_history, ConsoleReached, ConsoleIsReachable, RightOverConsoleRuns}

-- What a console call leaves of a state and of the history: both as they were, or what the library's call leaves.
abbrev Effect : ℕ → Surviving → Run → Call → Answered → Type 0
Effect n h s k a =
    ((a.run ≡ s) × (after n h (record { made = k; reply = a.reply }) ≡ h))
    ⊎ ((a.run ≡ (call s k).run) × (after n h (record { made = k; reply = a.reply }) ≡ after n h (exchange s k)))

-- Of a line call's answer the history reads no more than its report: a line that is shown in part leaves what the whole line leaves.
line_history : (n : ℕ) (h : Surviving) (F : ℕ) (lent : List ℕ) (a b : Reply) → a.report ≡ b.report → a.deleted ≡ b.deleted
    → after n h (record { made = line F lent; reply = a }) ≡ after n h (record { made = line F lent; reply = b })
unfolding after accepted lists_after restart_after sends_after receiver_after underway_after kept_after handed_out_of stored_by cause_with count_of handed_blocks
line_history n h F lent a b report deleted = rw (report, deleted)

line_unlent : (s : Run) (F : ℕ) (lent : List ℕ) → (s ≡ (line_outcome s F lent).run) × ([] ≡ (line_outcome s F lent).deleted)
unfolding line_outcome
line_unlent s F lent = by_refusal (line_refusal s F lent) (λ e. rw e (refl, refl)) (λ x e. rw e (refl, refl))

-- The reply to a line call that is not denied.
abbrev shown_reply : Caller → Run → ℕ → List ℕ → Reply
shown_reply c s F lent = record {
  report = line_report (line_outcome s F lent).answer;
  rose = 0;
  deleted = [];
  line = shown c s.count lent (line_outcome s F lent).line;
}

-- A list and the counts leave the state.
pub list_unchanged : (c : Caller) (s : Run) (deleted : List ℕ) → (console_answered c s (list deleted)).run ≡ s
unfolding console_answered answered console_list
list_unchanged c s deleted = by_bool (denied c Listing) (λ e. rw e) (λ e. rw e (by_refusal (list_refusal s deleted) (λ o. rw o) (λ x o. rw o)))

pub counts_unchanged : (c : Caller) (s : Run) (lent : List ℕ) → (console_answered c s (counts lent)).run ≡ s
unfolding console_answered answered console_counts
counts_unchanged c s lent = by_bool (denied c Counts) (λ e. rw e) (λ e. rw e (by_refusal (counts_refusal s lent) (λ o. rw o) (λ x o. rw o)))

module _ (n : ℕ) (h : Surviving) (c : Caller) (s : Run) where
  -- A denied call leaves both, and any other is the library's.
  effect : (k : Call) → Effect n h s k (console_answered c s (made k))
  unfolding console_answered answered call after number checkpoint_report send_report deliver_report lose_report line_report recover_report console_checkpoint console_send console_deliver console_lose console_recover console_line console_earliest
  effect (checkpoint i deleted) = by_bool (denied_process c s Checkpoint i) (λ e. rw e (inl (refl, refl))) (λ e. rw e (inr (refl, refl)))
  effect (send i j) = by_bool (denied_process c s Send i) (λ e. rw e (inl (refl, refl))) (λ e. rw e (inr (refl, refl)))
  effect (deliver m deleted) = by_bool (denied_message c s Deliver m) (λ e. rw e (inl (refl, refl))) (λ e. rw e (inr (refl, refl)))
  effect (lose m) = by_bool (denied_message c s Lose m) (λ e. rw e (inl (refl, refl))) (λ e. rw e (inr (refl, refl)))
  effect (recover F deleted lent) = by_bool (denied c Recover) (λ e. rw e (inl (refl, refl))) (λ e. rw e (inr (refl, refl)))
  effect (line F lent) = by_bool (denied c Line)
      (λ e. rw e (inl (refl, refl)))
      (λ e. rw e (inr ((line_unlent s F lent).0, line_history n h F lent (shown_reply c s F lent) (call s (line F lent)).reply refl (line_unlent s F lent).1)))
  effect (earliest l lent) = by_bool (denied c Earliest) (λ e. rw e (inl (refl, refl))) (λ e. rw e (inr (refl, refl)))

  -- What the library's calls reach, console calls reach no further.
  asked_reachable : Reachable s → (a : Asked) → Reachable (console_answered c s a).run
  asked_reachable v (made k) = either (effect k)
      (λ e. subst Reachable (sym e.0) v)
      (λ e. subst Reachable (sym e.0) (reachable_call s v k))
  asked_reachable v (list deleted) = subst Reachable (sym (list_unchanged c s deleted)) v
  asked_reachable v (counts lent) = subst Reachable (sym (counts_unchanged c s lent)) v

  -- Nor does the history: console calls reach what calls of the library reach, each with its history.
  asked_reached : (r : Ideal) → Reached n s h r → (a : Asked) → (r' : Ideal) × Reached n (console_answered c s a).run (surviving_from n h (exchanged c s a)) r'
  unfolding surviving_from exchanged
  asked_reached r v (made k) = either (effect k)
      (λ e. (r, rw (e.0, e.1) v))
      (λ e. (unless_refused (refusal (state_of r) k) r (stepped r k), rw (e.0, e.1) (call_reached n s h r v k)))
  asked_reached r v (list deleted) = (r, rw (list_unchanged c s deleted) v)
  asked_reached r v (counts lent) = (r, rw (counts_unchanged c s lent) v)

-- The history of a transcript put together.
surviving_append : (n : ℕ) (h : Surviving) (a b : List Exchange) → surviving_from n h (a ++ b) ≡ surviving_from n (surviving_from n h a) b
unfolding surviving_from
surviving_append n h [] b = refl
surviving_append n h (e ∷ a) b = surviving_append n (after n h e) a b

call_reachable : (s : Run) → Reachable s → (k : ConsoleCall) → Reachable (console_call s k).run
unfolding console_call
call_reachable s v k = asked_reachable 0 (beginning 0 []) k.caller s v k.asked

calls_reachable : (s : Run) → Reachable s → (calls : List ConsoleCall) → Reachable (state_after_console s calls)
unfolding state_after_console
calls_reachable s v [] = v
calls_reachable s v (k ∷ l) = calls_reachable (console_call s k).run (call_reachable s v k) l

-- A state with its history that calls of the library reach, whatever the run as functions is.
data Stands (n : ℕ) (s : Run) (h : Surviving) : Type 0 where
  stands : (r : Ideal) → Reached n s h r → Stands n s h

call_stands : (n : ℕ) (s : Run) (h : Surviving) → Stands n s h → (k : ConsoleCall) → Stands n (console_call s k).run (surviving_from n h (exchanged k.caller s k.asked))
unfolding console_call
call_stands n s h (stands r v) k = let w = asked_reached n h k.caller s r v k.asked in stands w.0 w.1

calls_stand : (n : ℕ) (s : Run) (h : Surviving) → Stands n s h → (calls : List ConsoleCall) → Stands n (state_after_console s calls) (surviving_from n h (console_transcript s calls))
unfolding state_after_console console_transcript surviving_from
calls_stand n s h v [] = v
calls_stand n s h v (k ∷ l) =
    rw (surviving_append n h (exchanged k.caller s k.asked) (console_transcript (console_call s k).run l))
    (calls_stand n (console_call s k).run (surviving_from n h (exchanged k.caller s k.asked)) (call_stands n s h v k) l)

-- A start that is refused is not accepted, and an accepted console start is an accepted start.
pub not_started : {x : Refusal} → ◌≡◌ {A = StartAnswer} (Err x) (Ok tt) → ⊥
not_started {x} e = let z : ◌≡◌ {A = ℕ} 0 1 = cc in omega arith

started_by : (c : Caller) (n : ℕ) (sizes : List ℕ) → (console_start c n sizes).answer ≡ Ok tt
    → (start_refusal n sizes ≡ None) × ((console_start c n sizes).run ≡ (start_outcome n sizes).run)
unfolding console_start start_outcome
started_by c n sizes e = by_bool (denied c Start)
    (λ d. absurd (not_started (rw d at e)))
    (λ d. by_refusal (start_refusal n sizes)
    (λ o. (o, rw d))
    (λ x o. absurd (not_started (rw (d, o) at e))))

pub console_reachable : ConsoleIsReachable
unfolding ConsoleIsReachable ConsoleReached
console_reachable s v =
    let w = started_by v.0 v.1 v.2 v.3 in
    subst Reachable (sym v.5) (calls_reachable (console_start v.0 v.1 v.2).run (subst Reachable (sym w.1) (reachable_start v.1 v.2 w.0)) v.4)

-- A console run: its state and its history are those of a run as functions.
reached_of : (n : ℕ) (s : Run) (h : Surviving) → Stands n s h → (r : Ideal) × Reached n s h r
reached_of n s h (stands r v) = (r, v)

pub console_reached : (c : Caller) (n : ℕ) (sizes : List ℕ) → (console_start c n sizes).answer ≡ Ok tt → (calls : List ConsoleCall)
    → (r : Ideal) × Reached n (state_after_console (console_start c n sizes).run calls) (console_history c n sizes calls) r
unfolding console_history surviving
console_reached c n sizes e calls =
    let w = started_by c n sizes e in
    reached_of n (state_after_console (console_start c n sizes).run calls) (surviving_from n (beginning n sizes) (console_transcript (console_start c n sizes).run calls))
    (calls_stand n (console_start c n sizes).run (beginning n sizes) (stands (begun n sizes) (rw w.1 (start_reached n sizes w.0))) calls)

pub right_over_console_runs : RightOverConsoleRuns
unfolding RightOverConsoleRuns
right_over_console_runs c n sizes e calls =
    let s = state_after_console (console_start c n sizes).run calls in
    let h = console_history c n sizes calls in
    let w = console_reached c n sizes e calls in
    (reached_kept n s h w.0 w.1, reached_blocks n s h w.0 w.1, reached_line n s h w.0 w.1, reached_answer n s h w.0 w.1)
