-- Note 4: a sweep. Nobody rolls back, of any state; the messages under way stay, of a sound one; the lines stay, of a state that calls from a start reach. And that no
-- call is refused with 6.
-- Assumes nothing.
use Rattle.std.specs.Prelude.{◌≡◌, ◌&&◌, ◌<◌, Ok}
use Rattle.laws.specs.Basics.{refl, sym, ◌∙◌, ap, fun_ext, true, false, not, List, [], Option, None, Some, ℕ, zero, suc, arith, eqb, ltb, length, get_or, le-ltb, leb-true, pick, by_bool}
use native.Mathlib.Nat.{div-eq_of_lt, one-le-pow}
use lib.Seq.{set-get_or}
use Rattle.laws.specs.{Counting.count_none, Rows.and_true, Rows.every_at, Rows.every_by, Search.any_below, Search.any_out, Search.all_in, Search.all_out, Tables.table_same}
use Rattle.laws.specs.{Select.all_chosen, Select.last_of_snoc, Truth.never_both}
use Prim.{tt}
use Rattle.model.specs.Shapes.{LineAnswer, RecoverAnswer}
use Rattle.model.specs.declared.{Checkpoint.Checkpoint, Message.Message, Run.Run, Refusal.Refusal}
use Rattle.model.specs.Words.{entry, Process, live, no_checkpoint, no_message, process, with_process, own, under_way, with_messages, with_disk, failed}
use Rattle.model.specs.Steps.{with_processes, allowed, states, latest_allowed, member, line_of, rolled_back, vector_after, own_after, pin_after, recovered, lost_by, still_under_way, recover_state, recover_deletions, rolled_back_count}
use Rattle.model.specs.{Sound.within, Sound.message_sound, Sound.sound, Refusals.missing, Refusals.no_member_of, Refusals.line_refusal, Refusals.recover_refusal}
use Rattle.model.specs.{laws.Refusals.by_refusal, laws.Sound.sound_state, laws.Sound.sound_message}
use Rattle.whole_runs.specs.{Outcomes.written, Outcomes.start_outcome, Outcomes.line_outcome, Outcomes.recover_outcome, Calls.state_after, Calls.transcript}
use Rattle.whole_runs.specs.{Survival.Surviving, Survival.beginning, Survival.surviving_from, WholeRuns.Reachable}
use Rattle.whole_runs.specs.Sweep.{live_line, SweepIsQuiet, SweepIsAccepted, SweepLeavesLines, SixNeverOccurs, EmptyLinePromise, Swept, SweepPromise}
use Rattle.histories.proofs.{Run.Ideal, Run.Failed, Run.begun, Run.safe, Run.rolled, Invariant.Inv, Maximal.line_by_history, Recovered.recovered_inv}
use Rattle.histories.proofs.RecoveredViews.{recovered_n, recovered_events_stays}
use Rattle.model.proofs.{simulation.Parts.under_way_put, Numbers.numbers_are_right, simulation.Accepted.line_in, simulation.Accepted.recover_in}
use Rattle.model.proofs.{simulation.Lines.line_is, simulation.Recover.recover_is}
use Rattle.whole_runs.proofs.{whole.Reached.Reached, whole.Refused.number_of, whole.Refused.reports_number, whole.Runs.run_after}
use Rattle.whole_runs.proofs.WholeRuns.{reachable_reached, reports_start}
use Rattle.histories.proofs.Run as ideal

-- No process is in the empty set.
nobody_failed : (f : ℕ) → failed 0 f ≡ false
nobody_failed f = rw (div-eq_of_lt (one-le-pow f 2 (omega arith)))

module _ (s : Run) where
  -- So the line rule accepts every state,
  allowed_all : (c : Checkpoint) → allowed s 0 c ≡ true
  unfolding allowed
  allowed_all c = all_in s.count _ (λ f lt. rw (nobody_failed f))

  -- and the latest is the live one.
  latest_live : (p : ℕ) → latest_allowed s 0 p ≡ Some (live p (process s p))
  unfolding latest_allowed states
  latest_live p = rw (all_chosen (allowed s 0) _ (every_by (allowed s 0) _ no_checkpoint (λ k lt. allowed_all _))) (last_of_snoc (process s p).kept (live p (process s p)))

  member_live : (p : ℕ) → member s 0 p ≡ live p (process s p)
  unfolding member
  member_live p = rw (latest_live p)

  member_index : (p : ℕ) → (member s 0 p).index.0 ≡ (own s p).0
  unfolding live own
  member_index p = rw (member_live p)

  nobody_back : (p : ℕ) → rolled_back s 0 p ≡ false
  unfolding rolled_back
  nobody_back p = rw (member_index p) (le-ltb (own s p).0 (own s p).0 (omega arith))

  vector_stays : (p : ℕ) → vector_after s 0 p ≡ (process s p).vector
  unfolding vector_after
  vector_stays p = rw (nobody_back p)

  mark_stays : (p : ℕ) → ((process s p).mark && not (rolled_back s 0 p)) ≡ (process s p).mark
  mark_stays p = rw (nobody_back p) (and_true (process s p).mark)

  -- A part that stays in each process stays as a whole.
  vectors_stay : (n : ℕ) (f : ℕ → Process) → ((p : ℕ) → (f p).vector ≡ (process s p).vector) → (with_processes n f s).vectors ≡ s.vectors
  unfolding with_processes with_process process
  vectors_stay zero f h = refl
  vectors_stay (suc n) f h = rw (vectors_stay n f h, h n, set-get_or s.vectors.0 n [])

  marks_stay : (n : ℕ) (f : ℕ → Process) → ((p : ℕ) → (f p).mark ≡ (process s p).mark) → (with_processes n f s).sent ≡ s.sent
  unfolding with_processes with_process process
  marks_stay zero f h = refl
  marks_stay (suc n) f h = rw (marks_stay n f h, h n, set-get_or s.sent n false)

  sweep_members : no_member_of s 0 ≡ false
  unfolding no_member_of
  sweep_members = by_bool (any_below s.count (λ p. missing (latest_allowed s 0 p)))
      (λ e. let w = any_out s.count _ e in never_both (missing (latest_allowed s 0 w.0)) w.2 (rw (latest_live w.0)))
      (λ e. e)

  sweep_pins : (p f : ℕ) → pin_after s 0 p f ≡ pick (eqb (entry (process s p).vector f).0 (own s f).0) (get_or (process s p).pins f None) None
  unfolding pin_after own_after own
  sweep_pins p f = rw (vector_stays p, vector_stays f, nobody_back p)

  sweep_vectors : (recover_state s 0).vectors ≡ s.vectors
  unfolding recover_state with_disk with_messages recovered
  sweep_vectors = vectors_stay s.count (recovered s 0) vector_stays

  sweep_marks : (recover_state s 0).sent ≡ s.sent
  unfolding recover_state with_disk with_messages recovered
  sweep_marks = marks_stay s.count (recovered s 0) mark_stays

  pub sweep_is_quiet : SweepIsQuiet s
  unfolding line_of rolled_back_count
  sweep_is_quiet = record {
    line = table_same s.count _ _ (λ p lt. member_index p);
    members = sweep_members;
    nobody = count_none s.count (rolled_back s 0) (λ p lt. nobody_back p);
    vectors = sweep_vectors;
    marks = sweep_marks;
    pins = sweep_pins;
  }

  -- In a sound state no message carries an entry above its sender's own, so none is lost.
  module _ (whole : sound s ≡ true) where
    carried_below : (x : Message) → message_sound s x ≡ true → within s x.vector ≡ true → not (lost_by s 0 x) ≡ true
    unfolding within lost_by
    carried_below x good inside =
        let from = (sound_message s x good).from in
        rw (member_index x.sender, le-ltb _ _ (leb-true _ _ (all_out s.count _ inside x.sender from)))

    none_lost : still_under_way s 0 ≡ under_way s
    unfolding still_under_way
    none_lost = all_chosen _ (under_way s) (every_by _ (under_way s) no_message (λ k lt. carried_below (get_or (under_way s) k no_message)
        (every_at (message_sound s) (under_way s) k no_message lt (sound_state s whole).messages_sound_lem)
        (every_at (λ x. within s x.vector) (under_way s) k no_message lt (sound_state s whole).carried_within)))

    messages_stay : under_way (recover_state s 0) ≡ under_way s
    unfolding recover_state with_disk under_way
    messages_stay = under_way_put (with_processes s.count (recovered s 0) s) (still_under_way s 0) s.last ∙ none_lost

    pub sweep_is_accepted : SweepIsAccepted s
    sweep_is_accepted = record {
      line_accepted = λ lent room. line_in s 0 lent (record { whole = whole; room = room; set = one-le-pow s.count 2 (omega arith); members = sweep_members });
      accepted = λ deleted lent room line_room. recover_in s 0 deleted lent (record {
        whole = whole;
        room = room;
        line_room = line_room;
        set = one-le-pow s.count 2 (omega arith);
        members = sweep_members;
      });
      messages = messages_stay;
    }

-- A sweep takes nothing from the history, and the line follows from the history.
module _ (r : Ideal) (v : Inv r) where
  nobody_rolls : (p : ℕ) → rolled r (failed 0) p ≡ false
  unfolding rolled safe
  nobody_rolls p = rw (all_in r.n (λ f. pick (failed 0 f) (ltb (r.vector p (r.own p) f) (r.own f)) true) (λ f lt. rw (nobody_failed f)))

  same_events : (ideal.recovered r (failed 0)).events ≡ r.events
  same_events = fun_ext (λ p. recovered_events_stays r (failed 0) p (nobody_rolls p))

  same_line : (F : Failed) (p : ℕ) → p < r.n → ideal.line (ideal.recovered r (failed 0)) F p ≡ ideal.line r F p
  same_line F p hp = line_by_history (ideal.recovered r (failed 0)) r (recovered_inv r v (failed 0)) v (recovered_n r (failed 0)) same_events F p hp

reached_lines : (n : ℕ) (s : Run) (h : Surviving) (r : Ideal) → Reached n s h r → (F : ℕ) → line_of (recover_state s 0) F ≡ line_of s F
unfolding ideal.recovered
reached_lines n s h r v F =
    let few = v.limits.few_processes in
    rw v.state (ap (λ (t : Run). line_of t F) (recover_is r v.inv few 0 v.limits.ledger.paid)
    ∙ line_is (ideal.recovered r (failed 0)) (recovered_inv r v.inv (failed 0)) few F
    ∙ table_same r.n _ _ (λ p lt. same_line r v.inv (failed F) p lt)
    ∙ sym (line_is r v.inv few F))

pub sweep_leaves_lines : (s : Run) → Reachable s → SweepLeavesLines s
unfolding Reachable SweepLeavesLines recover_outcome
sweep_leaves_lines s v deleted lent F = by_refusal (recover_refusal s 0 deleted lent)
    (λ e. rw e (
    let n = v.0 in
    let block_counts = v.1 in
    let s₀ = (start_outcome n block_counts).run in
    let calls = v.3 in
    rw v.4 (reached_lines n (state_after s₀ calls) (surviving_from n (beginning n block_counts) (transcript s₀ calls)) (run_after (begun n block_counts) calls)
    (reachable_reached n block_counts v.2 calls) F)))
    (λ x e. rw e)

-- No number is 6.
never_six : (o : Option Refusal) (k : ℕ) → k ≡ number_of o → k ≡ 6 → ⊥
unfolding number_of
never_six None k e six = omega arith
never_six (Some x) k e six = numbers_are_right.never_six x (sym e ∙ six)

pub six_never_occurs : SixNeverOccurs
six_never_occurs = record {
  calls = λ s c. never_six _ _ (reports_number s c);
  starts = λ n block_counts. never_six _ _ (reports_start n block_counts);
}

-- What a line call for the empty set and a sweep leave of a sound state, and as the calls say it.
module _ (s : Run) where
  line_swept : (lent : List ℕ) → line_refusal s 0 lent ≡ None → ((line_outcome s 0 lent).answer ≡ Ok tt) × ((line_outcome s 0 lent).line ≡ written lent (live_line s))
  unfolding line_outcome
  line_swept lent fine = rw fine (refl, ap (written lent) (sweep_is_quiet s).line)

  pub empty_line_promise : (F : ℕ) (lent : List ℕ) {answer : LineAnswer} {line : List ℕ} → answer ≡ (line_outcome s F lent).answer → line ≡ (line_outcome s F lent).line
      → EmptyLinePromise s F lent answer line
  unfolding EmptyLinePromise
  empty_line_promise F lent e g whole empty room =
      let w = line_swept lent ((sweep_is_accepted s whole).line_accepted lent room) in
      (e ∙ ap (λ (F : ℕ). (line_outcome s F lent).answer) empty ∙ w.0, g ∙ ap (λ (F : ℕ). (line_outcome s F lent).line) empty ∙ w.1)

  module _ (whole : sound s ≡ true) where
    recover_swept : (deleted lent : List ℕ) → recover_refusal s 0 deleted lent ≡ None
        → Swept s lent (recover_outcome s 0 deleted lent).answer (recover_outcome s 0 deleted lent).line (recover_outcome s 0 deleted lent).run
    unfolding recover_outcome
    recover_swept deleted lent fine = rw fine (record {
      nobody = ap (λ (k : ℕ). Ok (record { rolled_back = k; deleted = length (recover_deletions s 0) })) (sweep_is_quiet s).nobody;
      live = ap (written lent) (sweep_is_quiet s).line;
      vectors = (sweep_is_quiet s).vectors;
      marks = (sweep_is_quiet s).marks;
      messages = (sweep_is_accepted s whole).messages;
    })

  pub sweep_promise : (F : ℕ) (deleted lent : List ℕ) {answer : RecoverAnswer} {line : List ℕ} {t : Run} → answer ≡ (recover_outcome s F deleted lent).answer
      → line ≡ (recover_outcome s F deleted lent).line → t ≡ (recover_outcome s F deleted lent).run → SweepPromise s F deleted lent answer line t
  unfolding SweepPromise
  sweep_promise F deleted lent e g h whole empty room line_room =
      rw (e, g, h, empty) (recover_swept whole deleted lent ((sweep_is_accepted s whole).accepted deleted lent room line_room))
