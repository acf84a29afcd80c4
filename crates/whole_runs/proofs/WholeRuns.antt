-- Demand 3, proved: right over whole runs. And what later work cites of states that calls from a start reach.
-- Assumes nothing.
use Rattle.std.specs.Prelude.{◌≡◌, ◌&&◌, ◌∷◌, ◌++◌, ◌^◌, ◌<◌, Ok}
use Rattle.laws.specs.Basics.{refl, sym, ◌∙◌, ap, subst, Bool, true, not, List, [], None, Some, ℕ, arith, eqb, leb, get_or, eq-eqb, eqb-true, by_eq}
use Rattle.laws.specs.{Counting.count_mono, Elements.same_test, Options.some_same, Options.none≢some, Ranges.any_same, Sums.sum_same}
use Prim.{tt}
use Rattle.model.specs.declared.{Named.Named, Run.Run}
use Rattle.model.specs.declared.Refusal.TheVariants.{CountOutsideRange, BlockCountOutsideRange}
use Rattle.model.specs.{Words.most_processes, Words.blank, Steps.started, Steps.opening, Steps.with_processes, Steps.start_state, Sound.is_block_count_of, Sound.sound}
use Rattle.histories.specs.History.{checkpoints}
use Rattle.model.specs.{Refusals.first_of, Refusals.start_refusal, laws.Refusals.by_refusal}
use Rattle.whole_runs.specs.Outcomes.{start_outcome, checkpoint_outcome, send_outcome, deliver_outcome, lose_outcome, recover_outcome, start_report}
use Rattle.whole_runs.specs.Calls.{Call, checkpoint, send, deliver, lose, recover, line, earliest, Exchange, answered, call, state_after, transcript}
use Rattle.whole_runs.specs.Survival.{Surviving, beginning, after, surviving_from, surviving}
use Rattle.whole_runs.specs.Answers.{AnswerIsRight, AnswersAreRight}
use Rattle.whole_runs.specs.WholeRuns.{LineIsRight, KeptIsRight, StartsAreRight, CountsBelowDecide, RightOverWholeRuns, Reachable, LinePromise, StatePromise, StartPromise, EarliestIsRight, EarliestPromise}
use Rattle.histories.proofs.{Run.Ideal, Run.begin, Run.open_ledger, Run.begun, Run.keeps, Ledger.ledger_keeps, Ledger.ledger_inv, Invariant.Inv}
use Rattle.histories.proofs.{Begin.begin_inv, Begin.begin_n, Begin.begin_pin_own, Begin.begin_pin_other, Memory.Memory, Memory.begin_memory}
use Rattle.histories.proofs.Rule.{keeps_in, keeps_out}
use Rattle.model.proofs.{simulation.View.state_of, simulation.View.Limits, simulation.View.process_of, simulation.Parts.all_agree, simulation.Accepted.start_out}
use Rattle.model.proofs.{simulation.Reads.count_is_lem, simulation.Reads.process_is, simulation.Start.start_kept_in, simulation.Start.start_is}
use Rattle.model.proofs.{simulation.Kept.few_kept, simulation.Kept.pins_name, simulation.Kept.kept_holds, simulation.Lines.line_is}
use Rattle.model.proofs.{simulation.Sound.state_sound, simulation.SoundLimits.limits_begin}
use Rattle.whole_runs.proofs.{whole.Agreement.Agrees, whole.Accepted.Step, whole.Accepted.step_reached, whole.Answers.answer_right}
use Rattle.whole_runs.proofs.{whole.Because.basic_step, whole.Because.forced_step, whole.BlocksRight.reached_blocks, whole.Earliest.earliest_right}
use Rattle.whole_runs.proofs.{whole.Refused.number_of, whole.Refused.members_found, whole.Refused.start_number, whole.LineRight.line_right}
use Rattle.whole_runs.proofs.whole.Reached.{Reached, exchange, refusal, refused_reached}
use Rattle.whole_runs.proofs.{whole.Recovers.recover_step, whole.Runs.stepped, whole.Runs.unless_refused, whole.Runs.run_after}
use Rattle.whole_runs.proofs.whole.Restarts.{begin_restarted, step_restarted, needed_in, needed_out}
use Rattle.whole_runs.proofs.whole.Steps.{send_step, lose_step, line_step, earliest_step}

-- The history of the start agrees with the run as functions at its start.
begin_keeps : (n p k : ℕ) → p < n → keeps (begin n) p k ≡ eqb k 0
begin_keeps n p k hp = same_test (keeps (begin n) p k) (eqb k 0)
    (λ e. let w = keeps_out (begin n) p k e in by_eq p w.0
    (λ c. eq-eqb k 0 (some_same (sym w.2 ∙ rw (← c) (begin_pin_own n p))))
    (λ ne. absurd (none≢some (sym (begin_pin_other n p w.0 ne) ∙ w.2))))
    (λ e. keeps_in (begin n) p p k (rw (begin_n n) hp) (begin_pin_own n p ∙ ap Some (sym (eqb-true k 0 e))))

begun_keeps : (n : ℕ) (block_counts : List ℕ) (p k : ℕ) → p < n → eqb k 0 ≡ keeps (begun n block_counts) p k
begun_keeps n block_counts p k hp = sym (ledger_keeps (begin n) (open_ledger n block_counts) p k ∙ begin_keeps n p k hp)

begin_agrees : (n : ℕ) (block_counts : List ℕ) → Agrees (beginning n block_counts) (begun n block_counts)
unfolding beginning begin open_ledger
begin_agrees n block_counts = record {
  lists = refl;
  sends = refl;
  receiver = refl;
  underway = refl;
  kept = λ p k hp. begun_keeps n block_counts p k hp;
  block_counts = refl;
  cause = refl;
  written = refl;
  deleted = omega (arith, start_kept_in n block_counts);
}

-- An accepted start reaches the state that it returns.
pub started_state : (n : ℕ) (block_counts : List ℕ) → start_refusal n block_counts ≡ None → (start_outcome n block_counts).run ≡ start_state n block_counts
unfolding start_outcome
started_state n block_counts ok = rw ok

started_answer : (n : ℕ) (block_counts : List ℕ) → start_refusal n block_counts ≡ None → (start_outcome n block_counts).answer ≡ Ok tt
unfolding start_outcome
started_answer n block_counts ok = rw ok

begun_memory : (n : ℕ) (block_counts : List ℕ) → Memory (begun n block_counts)
begun_memory n block_counts = let m = begin_memory n in record { marks = m.marks; sources = m.sources }

pub start_reached : (n : ℕ) (block_counts : List ℕ) → start_refusal n block_counts ≡ None → Reached n (start_outcome n block_counts).run (beginning n block_counts) (begun n block_counts)
start_reached n block_counts ok =
    let w = start_out n block_counts ok in
    record {
      inv = ledger_inv (begin n) (open_ledger n block_counts) (begin_inv n);
      limits = limits_begin n block_counts w.0 w.1 w.2;
      memory = begun_memory n block_counts;
      size = begin_n n;
      state = started_state n block_counts ok ∙ start_is n block_counts;
      agrees = begin_agrees n block_counts;
      restarted = begin_restarted n block_counts;
    }

-- Each accepted call is a step of the run as functions.
step : (n : ℕ) (h : Surviving) (r : Ideal) → Inv r → Limits r → Memory r → r.n ≡ n → Agrees h r → (c : Call) → refusal (state_of r) c ≡ None → Step n h (state_of r) r (stepped r c) c
unfolding refusal stepped
step n h r v fit memory size g (checkpoint i deleted) e = basic_step n h r v fit memory size g i deleted e
step n h r v fit memory size g (send i j) e = send_step n h r v fit memory size g i j e
step n h r v fit memory size g (deliver m deleted) e = forced_step n h r v fit memory size g m deleted e
step n h r v fit memory size g (lose m) e = lose_step n h r v fit memory size g m e
step n h r v fit memory size g (recover F deleted lent) e = recover_step n h r v fit memory size g F deleted lent e
step n h r v fit memory size g (line F lent) e = line_step n h r v fit memory size g F lent e
step n h r v fit memory size g (earliest l lent) e = earliest_step n h r v fit memory size g l lent e

-- What stands for s may be put for it.
on_state : (n : ℕ) (s : Run) (h : Surviving) (c : Call) (r r' : Ideal) → s ≡ state_of r → Reached n (call (state_of r) c).run (after n h (exchange (state_of r) c)) r'
    → Reached n (call s c).run (after n h (exchange s c)) r'
on_state n s h c r r' e v = rw e v

-- An accepted call reaches its step, a refused one what was reached before.
pub accepted_reached : (n : ℕ) (s : Run) (h : Surviving) (r : Ideal) → Reached n s h r → (c : Call) → refusal (state_of r) c ≡ None
    → Reached n (call s c).run (after n h (exchange s c)) (stepped r c)
accepted_reached n s h r v c e =
    let t = step n h r v.inv v.limits v.memory v.size v.agrees c e in
    on_state n s h c r (stepped r c) v.state
    (step_reached n r (stepped r c) h c v.inv v.size v.agrees e t (step_restarted n h r v.inv v.limits v.restarted c e t))

pub call_reached : (n : ℕ) (s : Run) (h : Surviving) (r : Ideal) → Reached n s h r → (c : Call)
    → Reached n (call s c).run (after n h (exchange s c)) (unless_refused (refusal (state_of r) c) r (stepped r c))
unfolding unless_refused
call_reached n s h r v c = by_refusal (refusal (state_of r) c)
    (λ e. rw e (accepted_reached n s h r v c e))
    (λ x e. rw e (refused_reached n s h r c x (rw v.state e) v))

pub calls_reached : (n : ℕ) (s : Run) (h : Surviving) (r : Ideal) → Reached n s h r → (calls : List Call)
    → Reached n (state_after s calls) (surviving_from n h (transcript s calls)) (run_after r calls)
unfolding state_after surviving_from transcript run_after
calls_reached n s h r v [] = v
calls_reached n s h r v (c ∷ calls) =
    calls_reached n (call s c).run (after n h (exchange s c)) (unless_refused (refusal (state_of r) c) r (stepped r c)) (call_reached n s h r v c) calls

-- The line of a reached state is right, for every failed set.
pub reached_line : (n : ℕ) (s : Run) (h : Surviving) (r : Ideal) → Reached n s h r → (F : ℕ) → F < 2 ^ n → LineIsRight n s h F
reached_line n s h r v F less = rw (← v.size, v.state)
    (line_right r v.inv (state_of r) h v.agrees F (count_is_lem r) (state_sound r v.inv v.limits)
    (line_is r v.inv v.limits.few_processes F) (members_found r v.inv v.limits F) (rw v.size less))

-- What a reached state keeps is right.
pub reached_kept : (n : ℕ) (s : Run) (h : Surviving) (r : Ideal) → Reached n s h r → KeptIsRight n s h
unfolding process_of
reached_kept n s h r v =
    let few = v.limits.few_processes in
    rw (← v.size, v.state) (record {
      kept_in_state = λ p k hp. rw (process_is r p few hp) (kept_holds r v.inv p k ∙ sym (v.agrees.kept p k hp));
      kept_by_pins = λ p k hp. rw (process_is r p few hp) (pins_name r p k few ∙ sym (v.agrees.kept p k hp));
      needed = λ p k hp e. needed_in h r v.inv v.memory v.agrees v.restarted p k (sym (v.agrees.kept p k hp) ∙ e);
      kept_if_needed = λ p k hp d. v.agrees.kept p k hp ∙ needed_out h r v.inv v.memory v.agrees v.restarted p k d;
      at_most_n = λ p hp. omega (arith, count_mono (checkpoints (h.lists p)) (h.kept p) (keeps r p) (λ j lt e. sym (v.agrees.kept p j hp) ∙ e), few_kept r p (checkpoints (h.lists p)));
    })

-- A reached state is sound.
pub reached_sound : (n : ℕ) (s : Run) (h : Surviving) (r : Ideal) → Reached n s h r → sound s ≡ true
reached_sound n s h r v = rw v.state (state_sound r v.inv v.limits)

-- Every answer that a call on a reached state gets is right.
pub reached_answer : (n : ℕ) (s : Run) (h : Surviving) (r : Ideal) → Reached n s h r → (c : Call) → AnswerIsRight n h (exchange s c)
reached_answer n s h r v c =
    rw (← v.size, v.state) (answer_right h r v.inv v.limits v.memory v.agrees
    (λ F less. line_right r v.inv (state_of r) h v.agrees F (count_is_lem r) (state_sound r v.inv v.limits)
    (line_is r v.inv v.limits.few_processes F) (members_found r v.inv v.limits F) less) c
    (step r.n h r v.inv v.limits v.memory refl v.agrees c))

-- Two transcripts that are the same have the same first exchange and the same rest.
same_first : (a b : Exchange) (l k : List Exchange) → a ∷ l ≡ b ∷ k → (a ≡ b) × (l ≡ k)
same_first a b l k e = (cc, cc)

not_empty : (a : Exchange) (l k : List Exchange) → ◌≡◌ {A = List Exchange} [] (k ++ (a ∷ l)) → ⊥
not_empty a l [] e = let z : ◌≡◌ {A = ℕ} 0 1 = cc in omega arith
not_empty a l (b ∷ k) e = let z : ◌≡◌ {A = ℕ} 0 1 = cc in omega arith

-- So is every answer of a list of calls, wherever it stands in the transcript.
answers_from : (n : ℕ) (calls : List Call) (s : Run) (h : Surviving) (r : Ideal) → Reached n s h r → (earlier later : List Exchange) (e : Exchange)
    → transcript s calls ≡ earlier ++ (e ∷ later) → AnswerIsRight n (surviving_from n h earlier) e
unfolding transcript surviving_from
answers_from n [] s h r v earlier later e q = absurd (not_empty e later earlier q)
answers_from n (c ∷ calls) s h r v [] later e q =
    let w = same_first (exchange s c) e (transcript (call s c).run calls) later q in
    rw (← w.0) (reached_answer n s h r v c)
answers_from n (c ∷ calls) s h r v (x ∷ earlier) later e q =
    let w = same_first (exchange s c) x (transcript (call s c).run calls) (earlier ++ (e ∷ later)) q in
    rw (← w.0) (answers_from n calls (call s c).run (after n h (exchange s c)) (unless_refused (refusal (state_of r) c) r (stepped r c)) (call_reached n s h r v c) earlier later e w.1)

pub answers_right : (n : ℕ) (block_counts : List ℕ) → start_refusal n block_counts ≡ None → (calls : List Call) → AnswersAreRight n block_counts (transcript (start_outcome n block_counts).run calls)
unfolding AnswersAreRight surviving
answers_right n block_counts ok calls = answers_from n calls (start_outcome n block_counts).run (beginning n block_counts) (begun n block_counts) (start_reached n block_counts ok)

-- Demand 3.
pub right_over_whole_runs : RightOverWholeRuns
unfolding RightOverWholeRuns surviving
right_over_whole_runs n block_counts ok calls =
    let r = run_after (begun n block_counts) calls in
    let s = state_after (start_outcome n block_counts).run calls in
    let h = surviving_from n (beginning n block_counts) (transcript (start_outcome n block_counts).run calls) in
    let v = calls_reached n (start_outcome n block_counts).run (beginning n block_counts) (begun n block_counts) (start_reached n block_counts ok) calls in (
      started_answer n block_counts ok,
      answers_right n block_counts ok calls,
      reached_kept n s h r v,
      reached_blocks n s h r v,
      reached_line n s h r v,
    )

-- The number of a start.
pub reports_start : (n : ℕ) (block_counts : List ℕ) → (start_report (start_outcome n block_counts).answer).refused ≡ number_of (start_refusal n block_counts)
unfolding start_report start_outcome number_of
reports_start n block_counts = by_refusal (start_refusal n block_counts) (λ e. rw e) (λ x e. rw e)

pub starts_are_right : StartsAreRight
unfolding StartsAreRight
starts_are_right n block_counts = reports_start n block_counts ∙ start_number n block_counts

-- Counts at n and above have no part in a start.
module _ (n : ℕ) (a b : List ℕ) (same : (p : ℕ) → p < n → get_or a p 0 ≡ get_or b p 0) where
  same_refusal : start_refusal n a ≡ start_refusal n b
  unfolding start_refusal
  same_refusal = ap (λ (bad : Bool). first_of (
      record { holds = not (leb 1 n && leb n most_processes); gives = CountOutsideRange }
      ∷ record { holds = bad; gives = BlockCountOutsideRange }
      ∷ []))
      (any_same n (λ p. not (is_block_count_of (get_or a p 0))) (λ p. not (is_block_count_of (get_or b p 0))) (λ p lt. rw (same p lt)))

  same_parts : with_processes n (started a) (blank n) ≡ with_processes n (started b) (blank n)
  unfolding started
  same_parts = all_agree n (started a) (started b) (blank n) (λ p lt. rw (same p lt))

  same_opening : opening n a ≡ opening n b
  unfolding opening
  same_opening = rw (sum_same n (λ p. get_or a p 0) (λ p. get_or b p 0) same)

  pub same_start : start_state n a ≡ start_state n b
  unfolding start_state
  same_start = rw (same_parts, same_opening)

pub counts_below_decide : CountsBelowDecide
unfolding CountsBelowDecide start_outcome
counts_below_decide n a b same = rw (same_refusal n a b same, same_start n a b same)

-- Reachable states: the start, what a call makes of one, and that each is sound.
pub reachable_start : (n : ℕ) (block_counts : List ℕ) → start_refusal n block_counts ≡ None → Reachable (start_outcome n block_counts).run
unfolding Reachable state_after
reachable_start n block_counts ok = (n, block_counts, ok, [], refl)

pub after_one : (s : Run) (calls : List Call) (c : Call) → state_after s (calls ++ (c ∷ [])) ≡ (call (state_after s calls) c).run
unfolding state_after
after_one s [] c = refl
after_one s (b ∷ calls) c = after_one (call s b).run calls c

pub reachable_call : (s : Run) → Reachable s → (c : Call) → Reachable (call s c).run
unfolding Reachable
reachable_call s v c = (v.0, v.1, v.2, v.3 ++ (c ∷ []), ap (λ (t : Run). (call t c).run) v.4 ∙ sym (after_one (start_outcome v.0 v.1).run v.3 c))

pub reachable_reached : (n : ℕ) (block_counts : List ℕ) → start_refusal n block_counts ≡ None → (calls : List Call)
    → Reached n (state_after (start_outcome n block_counts).run calls) (surviving_from n (beginning n block_counts) (transcript (start_outcome n block_counts).run calls)) (run_after (begun n block_counts) calls)
reachable_reached n block_counts ok calls = calls_reached n (start_outcome n block_counts).run (beginning n block_counts) (begun n block_counts) (start_reached n block_counts ok) calls

pub reachable_sound : (s : Run) → Reachable s → sound s ≡ true
unfolding Reachable
reachable_sound s v =
    ap sound v.4
    ∙ reached_sound v.0 (state_after (start_outcome v.0 v.1).run v.3) (surviving_from v.0 (beginning v.0 v.1) (transcript (start_outcome v.0 v.1).run v.3))
    (run_after (begun v.0 v.1) v.3) (reachable_reached v.0 v.1 v.2 v.3)

-- Demand 3 as a line or recover call says it of the state that it is handed,
pub line_promise : (s : Run) (F : ℕ) → LinePromise s F
unfolding RightOverWholeRuns LinePromise
line_promise s F n block_counts ok calls e inside =
    let w = right_over_whole_runs n block_counts ok calls in
    rw e (w.4 F inside, w.2)

-- Note 8 as its call says it of the state that it is handed,
pub earliest_promise : (s : Run) (l : List Named) (lent : List ℕ) → EarliestPromise s l lent
unfolding EarliestPromise surviving
earliest_promise s l lent n block_counts ok calls e =
    let r = run_after (begun n block_counts) calls in
    let v = reachable_reached n block_counts ok calls in
    let h = surviving_from n (beginning n block_counts) (transcript (start_outcome n block_counts).run calls) in
    subst (λ (t : Run). EarliestIsRight n t h l lent) (sym (e ∙ v.state))
    (subst (λ (x : ℕ). EarliestIsRight x (state_of r) h l lent) v.size (earliest_right h r v.inv v.limits v.agrees l lent))

-- and as a call says it of the state that it returns.
state_promise : (s : Run) (c : Call) (t : Run) → t ≡ (call s c).run → StatePromise s c t
unfolding RightOverWholeRuns StatePromise
state_promise s c t same n block_counts ok calls e =
    let w = right_over_whole_runs n block_counts ok (calls ++ (c ∷ [])) in
    rw (same, e, ← after_one (start_outcome n block_counts).run calls c) (w.2, w.3)

pub checkpoint_promise : (s : Run) (i : ℕ) (deleted : List ℕ) (t : Run) → t ≡ (checkpoint_outcome s i deleted).run → StatePromise s (checkpoint i deleted) t
unfolding call answered
checkpoint_promise s i deleted t same = state_promise s (checkpoint i deleted) t same

pub deliver_promise : (s : Run) (m : ℕ) (deleted : List ℕ) (t : Run) → t ≡ (deliver_outcome s m deleted).run → StatePromise s (deliver m deleted) t
unfolding call answered
deliver_promise s m deleted t same = state_promise s (deliver m deleted) t same

pub recover_promise : (s : Run) (F : ℕ) (deleted lent : List ℕ) (t : Run) → t ≡ (recover_outcome s F deleted lent).run → StatePromise s (recover F deleted lent) t
unfolding call answered
recover_promise s F deleted lent t same = state_promise s (recover F deleted lent) t same

pub send_promise : (s : Run) (i j : ℕ) (t : Run) → t ≡ (send_outcome s i j).run → StatePromise s (send i j) t
unfolding call answered
send_promise s i j t same = state_promise s (send i j) t same

pub lose_promise : (s : Run) (m : ℕ) (t : Run) → t ≡ (lose_outcome s m).run → StatePromise s (lose m) t
unfolding call answered
lose_promise s m t same = state_promise s (lose m) t same

pub start_promise : (n : ℕ) (block_counts : List ℕ) (t : Run) → t ≡ (start_outcome n block_counts).run → StartPromise n block_counts t
unfolding RightOverWholeRuns StartPromise state_after transcript
start_promise n block_counts t same ok = let w = right_over_whole_runs n block_counts ok [] in rw same (w.2, w.3)
