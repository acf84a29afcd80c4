-- What the calls in place say of a record, with lists of 512 and 16 entries whatever these hold: the state and the reply of the record by the model, whose lists hold zeros.
-- Assumes nothing.
use Rattle.std.specs.Prelude.{◌≡◌, ◌≤◌}
use Rattle.laws.specs.Basics.{refl, sym, ◌∙◌, ap, false, List, [], None, Some, ℕ, arith, length, replicate, length-replicate, sets, by_bool}
use Rattle.model.specs.Shapes.{CheckpointAnswer, DeliverAnswer, LoseAnswer, RecoverAnswer, SendAnswer}
use Rattle.model.specs.declared.{Event.Event, Refusal.TheVariants.UnsoundState, Refusal.TheVariants.MalformedRecord, Run.Run}
use Rattle.model.specs.declared.Event.TheVariants.{Checkpoint, Send, Deliver, Lose, Recover}
use Rattle.model.specs.{Steps.Deletion, Steps.checkpoint_deletions, Steps.deliver_deletions, Steps.recover_deletions, Steps.forces, Words.process, Sound.sound}
use Rattle.model.specs.Refusals.{checkpoint_refusal, send_refusal, deliver_refusal, lose_refusal, recover_refusal}
use Rattle.model.specs.laws.Refusals.{by_refusal}
use Rattle.whole_runs.specs.Outcomes.{Report, Outcome, refusing, pairs, message, deliver_answer, checkpoint_outcome, checkpoint_report, send_outcome, send_report, deliver_outcome, deliver_report, lose_outcome, lose_report, recover_outcome, recover_report}
use Rattle.whole_runs.specs.{Calls.recover, Calls.answered, Calls.call, Listing.deletions_text, Listing.call_of, Listing.perform, WholeRuns.Reachable}
use Rattle.whole_runs.proofs.{WholeRuns.reachable_call, Sizes.record_small}
use Rattle.whole_runs.proofs.Unsound.{checkpoint_unsound, send_unsound, deliver_unsound, lose_unsound, recover_unsound}
use Rattle.listing.specs.declared.Summary.{Summary}
use Rattle.listing.specs.Summarised.{report_in, Says, Performs}
use Rattle.listing.proofs.Summarised.{none_listed}
use Rattle.library_replay.proofs.Deleted.{deleted_text}

abbrev lent : List ℕ
lent = replicate 512 0

abbrev lent_line : List ℕ
lent_line = replicate 16 0

-- A list of the same length with the same deletions written to its front says the same.
abbrev SameText : ℕ → List ℕ → List ℕ → Type 0
SameText k l m = deletions_text k l ≡ deletions_text k m

listed_same : (ds : List Deletion) (l m : List ℕ) → length l ≡ 512 → length m ≡ 512 → length ds ≤ 256 → SameText (length ds) (sets l 0 (pairs ds)) (sets m 0 (pairs ds))
listed_same ds l m long same few = deleted_text ds l m (omega arith) (omega arith)

none_same : (l m : List ℕ) → SameText 0 l m
unfolding deletions_text
none_same l m = refl

-- Two outcomes of one call that differ in their lent lists alone, by the report.
record Alike {A : Type 0} (report : A → Report) (o p : Outcome A) : Type 0 where
  run : o.run ≡ p.run
  answer : o.answer ≡ p.answer
  listed : SameText (report p.answer).deletions o.deleted p.deleted

module _ (l m : List ℕ) (long : length l ≡ 512) (as_long : length m ≡ 512) where
  same_length : length l ≡ length m
  same_length = long ∙ sym as_long

  checkpoint_refusal_lem : (s : Run) (i : ℕ) → checkpoint_refusal s i l ≡ checkpoint_refusal s i m
  unfolding checkpoint_refusal
  checkpoint_refusal_lem s i = rw same_length

  deliver_refusal_lem : (s : Run) (k : ℕ) → deliver_refusal s k l ≡ deliver_refusal s k m
  unfolding deliver_refusal
  deliver_refusal_lem s k = rw same_length

  recover_refusal_lem : (s : Run) (F : ℕ) (line other : List ℕ) → length line ≡ length other → recover_refusal s F l line ≡ recover_refusal s F m other
  unfolding recover_refusal
  recover_refusal_lem s F line other few = rw (same_length, few)

  checkpoint_alike : (s : Run) (i : ℕ) → (checkpoint_report (checkpoint_outcome s i m).answer).deletions ≤ 256 → Alike checkpoint_report (checkpoint_outcome s i l) (checkpoint_outcome s i m)
  unfolding checkpoint_outcome checkpoint_report
  checkpoint_alike s i few = by_refusal (checkpoint_refusal s i m)
      (λ e. rw (checkpoint_refusal_lem s i, e) (record { run = refl; answer = refl; listed = listed_same (checkpoint_deletions s i) l m long as_long (rw e at few) }))
      (λ why e. rw (checkpoint_refusal_lem s i, e) (record { run = refl; answer = refl; listed = none_same l m }))

  deliver_alike : (s : Run) (k : ℕ) → (deliver_report (deliver_outcome s k m).answer).deletions ≤ 256 → Alike deliver_report (deliver_outcome s k l) (deliver_outcome s k m)
  unfolding deliver_outcome deliver_report deliver_answer
  deliver_alike s k few = by_refusal (deliver_refusal s k m)
      (λ e. by_bool (forces (process s (message s k).receiver) (message s k).vector)
      (λ f. rw (deliver_refusal_lem s k, e, f) (record { run = refl; answer = refl; listed = listed_same (deliver_deletions s (message s k)) l m long as_long (rw (e, f) at few) }))
      (λ f. rw (deliver_refusal_lem s k, e, f) (record { run = refl; answer = refl; listed = listed_same (deliver_deletions s (message s k)) l m long as_long (rw (e, f) at few) })))
      (λ why e. rw (deliver_refusal_lem s k, e) (record { run = refl; answer = refl; listed = none_same l m }))

  recover_alike : (s : Run) (F : ℕ) (line other : List ℕ) → length line ≡ length other → (recover_report (recover_outcome s F m other).answer).deletions ≤ 256
      → Alike recover_report (recover_outcome s F l line) (recover_outcome s F m other)
  unfolding recover_outcome recover_report
  recover_alike s F line other few most = by_refusal (recover_refusal s F m other)
      (λ e. rw (recover_refusal_lem s F line other few, e) (record { run = refl; answer = refl; listed = listed_same (recover_deletions s F) l m long as_long (rw e at most) }))
      (λ why e. rw (recover_refusal_lem s F line other few, e) (record { run = refl; answer = refl; listed = none_same l m }))

-- The lists of the model's record, and that it deletes at most 256.
lent_long : length lent ≡ 512
lent_long = length-replicate {A = ℕ} 512 0

line_long : length lent_line ≡ 16
line_long = length-replicate {A = ℕ} 16 0

checkpoint_few : (s : Run) (i : ℕ) → (checkpoint_report (checkpoint_outcome s i lent).answer).deletions ≤ 256
unfolding perform call answered call_of
checkpoint_few s i = (record_small s (Some (Checkpoint i))).deletions

deliver_few : (s : Run) (m : ℕ) → (deliver_report (deliver_outcome s m lent).answer).deletions ≤ 256
unfolding perform call answered call_of
deliver_few s m = (record_small s (Some (Deliver m))).deletions

recover_few : (s : Run) (F : ℕ) → (recover_report (recover_outcome s F lent lent_line).answer).deletions ≤ 256
unfolding perform call answered call_of
recover_few s F = (record_small s (Some (Recover F))).deletions

-- A summary of the answer says what the record's reply says.
says_alike : {A : Type 0} (report : A → Report) (o p : Outcome A) → Alike report o p → (summary : Summary) → report_in summary ≡ report o.answer
    → Says summary o.deleted (answered report p).reply
unfolding answered report_in
says_alike report o p h summary e =
    let same = e ∙ ap report h.answer in
    let many : (report p.answer).deletions ≡ summary.deletions = sym (ap (λ (r : Report). r.deletions) same) in
    record { report = same; listed = rw many at h.listed }

module _ (s : Run) where
  pub checkpoint_performs : (i : ℕ) (l : List ℕ) → length l ≡ 512 → {run : Run} → run ≡ (checkpoint_outcome s i l).run → {a : CheckpointAnswer} → a ≡ (checkpoint_outcome s i l).answer
      → {deleted : List ℕ} → deleted ≡ (checkpoint_outcome s i l).deleted → {summary : Summary} → report_in summary ≡ checkpoint_report a → Performs s (Some (Checkpoint i)) run summary deleted
  unfolding perform call call_of answered
  checkpoint_performs i l long {run} r {a} b {deleted} d {summary} e =
      let h = checkpoint_alike l lent long lent_long s i (checkpoint_few s i) in
      record { state = r ∙ h.run; says = rw d (says_alike checkpoint_report (checkpoint_outcome s i l) (checkpoint_outcome s i lent) h summary (e ∙ ap checkpoint_report b)) }

  pub deliver_performs : (m : ℕ) (l : List ℕ) → length l ≡ 512 → {run : Run} → run ≡ (deliver_outcome s m l).run → {a : DeliverAnswer} → a ≡ (deliver_outcome s m l).answer
      → {deleted : List ℕ} → deleted ≡ (deliver_outcome s m l).deleted → {summary : Summary} → report_in summary ≡ deliver_report a → Performs s (Some (Deliver m)) run summary deleted
  unfolding perform call call_of answered
  deliver_performs m l long {run} r {a} b {deleted} d {summary} e =
      let h = deliver_alike l lent long lent_long s m (deliver_few s m) in
      record { state = r ∙ h.run; says = rw d (says_alike deliver_report (deliver_outcome s m l) (deliver_outcome s m lent) h summary (e ∙ ap deliver_report b)) }

  pub recover_performs : (F : ℕ) (l line : List ℕ) → length l ≡ 512 → length line ≡ 16 → {run : Run} → run ≡ (recover_outcome s F l line).run → {a : RecoverAnswer} → a ≡ (recover_outcome s F l line).answer
      → {deleted : List ℕ} → deleted ≡ (recover_outcome s F l line).deleted → {summary : Summary} → report_in summary ≡ recover_report a → Performs s (Some (Recover F)) run summary deleted
  unfolding perform call call_of answered
  recover_performs F l line long few {run} r {a} b {deleted} d {summary} e =
      let h = recover_alike l lent long lent_long s F line lent_line (few ∙ sym line_long) (recover_few s F) in
      record { state = r ∙ h.run; says = rw d (says_alike recover_report (recover_outcome s F l line) (recover_outcome s F lent lent_line) h summary (e ∙ ap recover_report b)) }

  -- nothing is deleted by these
  send_none : (i j : ℕ) → (send_report (send_outcome s i j).answer).deletions ≡ 0
  unfolding send_outcome send_report
  send_none i j = by_refusal (send_refusal s i j) (λ e. rw e) (λ why e. rw e)

  lose_none : (m : ℕ) → (lose_report (lose_outcome s m).answer).deletions ≡ 0
  unfolding lose_outcome lose_report
  lose_none m = by_refusal (lose_refusal s m) (λ e. rw e) (λ why e. rw e)

  pub send_performs : (i j : ℕ) {run : Run} → run ≡ (send_outcome s i j).run → {a : SendAnswer} → a ≡ (send_outcome s i j).answer → {summary : Summary} → report_in summary ≡ send_report a
      → (deleted : List ℕ) → Performs s (Some (Send i j)) run summary deleted
  unfolding perform call call_of answered
  send_performs i j {run} r {a} b {summary} e deleted =
      let same = e ∙ ap send_report b in
      record { state = r; says = record { report = same; listed = none_listed summary (send_report (send_outcome s i j).answer) deleted (send_outcome s i j).deleted same (send_none i j) } }

  pub lose_performs : (m : ℕ) {run : Run} → run ≡ (lose_outcome s m).run → {a : LoseAnswer} → a ≡ (lose_outcome s m).answer → {summary : Summary} → report_in summary ≡ lose_report a
      → (deleted : List ℕ) → Performs s (Some (Lose m)) run summary deleted
  unfolding perform call call_of answered
  lose_performs m {run} r {a} b {summary} e deleted =
      let same = e ∙ ap lose_report b in
      record { state = r; says = record { report = same; listed = none_listed summary (lose_report (lose_outcome s m).answer) deleted (lose_outcome s m).deleted same (lose_none m) } }

  -- "14: .. given before any other number for that record"
  pub malformed_performs : {summary : Summary} → report_in summary ≡ refusing MalformedRecord → (deleted : List ℕ) → Performs s None s summary deleted
  unfolding perform
  malformed_performs {summary} e deleted = record { state = refl; says = record { report = e; listed = none_listed summary (refusing MalformedRecord) deleted [] e refl } }

  -- a state that is not sound refuses every record with 2
  module _ (h : sound s ≡ false) where
    unsound_call : (e : Event) → (s ≡ (perform s (Some e)).run) × (refusing UnsoundState ≡ (perform s (Some e)).reply.report)
    unfolding perform call call_of answered checkpoint_report send_report deliver_report lose_report recover_report
    unsound_call (Checkpoint i) = let u = checkpoint_unsound s h i lent in (u.0, ap checkpoint_report u.1.0)
    unsound_call (Send i j) = let u = send_unsound s h i j in (u.0, ap send_report u.1)
    unsound_call (Deliver m) = let u = deliver_unsound s h m lent in (u.0, ap deliver_report u.1.0)
    unsound_call (Lose m) = let u = lose_unsound s h m in (u.0, ap lose_report u.1)
    unsound_call (Recover F) = let u = recover_unsound s h F lent lent_line in (u.0, ap recover_report u.1.0)

    pub unsound_performs : (e : Event) {summary : Summary} → report_in summary ≡ refusing UnsoundState → (deleted : List ℕ) → Performs s (Some e) s summary deleted
    unsound_performs e {summary} same deleted =
        let u = unsound_call e in
        record { state = u.0; says = record { report = same ∙ u.1; listed = none_listed summary (refusing UnsoundState) deleted (perform s (Some e)).reply.deleted same refl } }

  -- calls from a start lead to the state after it
  pub recover_reachable : Reachable s → (F : ℕ) (l line : List ℕ) → Reachable (recover_outcome s F l line).run
  unfolding call answered
  recover_reachable v F l line = reachable_call s v (recover F l line)
