-- The three ways of a call through the recorder: refused by itself, refused for want of room, and done. Which it is, the number that its summary has and the room tell.
-- Assumes nothing.
use Rattle.std.specs.Prelude.{◌≡◌, ◌+◌, ◌-◌, ◌≤◌, ◌<◌, Err}
use Rattle.laws.specs.Basics.{refl, sym, ◌∙◌, ap, Bool, true, false, not, List, [], Option, None, Some, ℕ, arith, eqb, ltb, length, sets, eq-eqb, ne_eqb, le-ltb, ltb-true, ltb-false, not-true, not-false, pick, by_eq}
use Rattle.laws.specs.Truth.{and_right}
use Rattle.model.specs.declared.{Run.Run, Event.Event, Refusal.Refusal, Refusal.TheVariants.BufferTooShort}
use Rattle.model.specs.declared.Event.TheVariants.{Checkpoint, Send, Deliver, Lose, Recover}
use Rattle.model.specs.{Trace.fits, Trace.fields_of, laws.Refusals.by_refusal}
use Rattle.model.specs.Refusals.{checkpoint_refusal, send_refusal, deliver_refusal, lose_refusal, recover_refusal}
use Rattle.whole_runs.specs.Outcomes.{Outcome, Report, judged, checkpoint_outcome, checkpoint_report, send_outcome, send_report, deliver_outcome, deliver_report, lose_outcome, lose_report, recover_outcome, recover_report}
use Rattle.whole_runs.specs.Calls.{Call, checkpoint, send, deliver, lose, recover, answered, call}
use Rattle.whole_runs.proofs.{whole.Reached.refusal, whole.Reached.refused_report, whole.Accepted.accepted_report}
use Rattle.listing.specs.{declared.Summary.Summary, Lines.number_said, Summarised.report_in}
use Rattle.listing.proofs.Summarised.{is_accepted, is_refused}
use Rattle.theory_recording.specs.Replay.{record_bytes}
use Rattle.theory_recording.specs.Recording.{Recorded, unwritten, appended, recording, recorded_checkpoint, recorded_send, recorded_deliver, recorded_lose, recorded_recover, event_of_call}
use Rattle.theory_recording.proofs.{Replay.record_of, Recording.fits_event}
use Rattle.library_recorder.proofs.record.Leaves.{Leaves, leaves_all, leaves_written}

-- A receiver whose record fits is small.
pub small : (i j : ℕ) → fits (Send i j) ≡ true → j < 33554432
unfolding fits fields_of
small i j h = ltb-true j 33554432 (and_right (ltb i 16) (ltb j 33554432) h)

-- What the test of the room says.
pub has_room : {v : Bool} (size place : ℕ) → v ≡ not (ltb (size - place) 4) → not v ≡ false → place + 4 ≤ size
has_room {v} size place e h = omega (arith, ltb-false (size - place) 4 (not-true (ltb (size - place) 4) (sym e ∙ not-false v h)))

-- The ways of one call: what follows where the number of its answer's summary x, or the room for its record, tells which it is. `report_of` is an answer's report, `asLent` an
-- outcome that leaves the state and the lists as they came, `refused_by` the answer of a refusal.
pub record Ways {A : Type 0} (own : Option Refusal) (e : Event) (outcome : Outcome A) (report_of : A → Report) (recorded : List ℕ → ℕ → Recorded A) (asLent : A → Outcome A) (refused_by : Refusal → A) : Type 0 where
  pub fine : (answer : A) (x : Summary) → answer ≡ outcome.answer → report_in x ≡ report_of answer → number_said x.refused ≡ 0 → fits e ≡ true
  -- With room the record of an accepted call is appended.
  pub made : (answer : A) (x : Summary) → answer ≡ outcome.answer → report_in x ≡ report_of answer → (buffer : List ℕ) (place : ℕ) → place + 4 ≤ length buffer
      → Leaves (recorded buffer place) outcome (pick (eqb (number_said x.refused) 0) (sets buffer place (record_bytes e)) buffer) (pick (eqb (number_said x.refused) 0) (place + length (record_bytes e)) place)
  -- Without room the answer is that of the call's own refusal, else 21.
  pub without : (answer : A) (buffer : List ℕ) (place : ℕ) {v : Bool} → v ≡ not (ltb (length buffer - place) 4) → not v ≡ true → answer ≡ judged own refused_by (refused_by BufferTooShort)
      → Leaves (recorded buffer place) (asLent answer) buffer place
  -- That answer, by a call that is made with lists of its own and has the same refusal.
  pub short : (answer : A) (x : Summary) → answer ≡ outcome.answer → report_in x ≡ report_of answer → number_said x.refused ≡ 0 → (same : Option Refusal) → own ≡ same
      → refused_by BufferTooShort ≡ judged same refused_by (refused_by BufferTooShort)
  pub refused : (answer : A) (x : Summary) → answer ≡ outcome.answer → report_in x ≡ report_of answer → (number_said x.refused ≡ 0 → ⊥) → (same : Option Refusal) → own ≡ same
      → answer ≡ judged same refused_by (refused_by BufferTooShort)

module _ {A : Type 0} (s : Run) (c : Call) (e : Event) (asks : event_of_call c ≡ Some e) (outcome : Outcome A) (report_of : A → Report)
    (same-report : (call s c).reply.report ≡ report_of outcome.answer) (asLent : A → Outcome A) (refused_by : Refusal → A)
    (IsRefused-as : (x : Refusal) → refusal s c ≡ Some x → outcome ≡ asLent (refused_by x)) (answer-as : (a : A) → (asLent a).answer ≡ a) where
  abbrev recorded : List ℕ → ℕ → Recorded A
  recorded = recording (refusal s c) outcome (asLent (refused_by BufferTooShort)) (record_bytes e)

  -- The record of an accepted call fits, and has four bytes.
  four : refusal s c ≡ None → length (record_bytes e) ≡ 4
  four h = (record_of e (fits_event s c e h asks)).0

  module _ (answer : A) (x : Summary) (q : answer ≡ outcome.answer) (t : report_in x ≡ report_of answer) where
    says : report_in x ≡ (call s c).reply.report
    says = t ∙ ap report_of q ∙ sym same-report

    accepts : number_said x.refused ≡ 0 → refusal s c ≡ None
    accepts z = is_accepted (refusal s c) x _ says (accepted_report s c) (refused_report s c) z

    refuses : (number_said x.refused ≡ 0 → ⊥) → (y : Refusal) × (refusal s c ≡ Some y)
    refuses z = is_refused (refusal s c) x _ says (accepted_report s c) (refused_report s c) z

    fits_record : number_said x.refused ≡ 0 → fits e ≡ true
    fits_record z = fits_event s c e (accepts z) asks

    is_made : (buffer : List ℕ) (place : ℕ) → place + 4 ≤ length buffer
        → Leaves (recorded buffer place) outcome (pick (eqb (number_said x.refused) 0) (sets buffer place (record_bytes e)) buffer) (pick (eqb (number_said x.refused) 0) (place + length (record_bytes e)) place)
    unfolding recording
    is_made buffer place room = by_eq (number_said x.refused) 0
        (λ z. let ok = accepts z in rw (eq-eqb (number_said x.refused) 0 z) (leaves_written outcome _ (record_bytes e) buffer place (rw (ok, four ok, le-ltb (length buffer - place) 4 (omega arith)))))
        (λ z. rw (ne_eqb (number_said x.refused) 0 z) (leaves_all outcome _ buffer place (rw (refuses z).1)))

    is_short : number_said x.refused ≡ 0 → (same : Option Refusal) → refusal s c ≡ same → refused_by BufferTooShort ≡ judged same refused_by (refused_by BufferTooShort)
    is_short z same h = rw (sym h ∙ accepts z)

    is_own : (number_said x.refused ≡ 0 → ⊥) → (same : Option Refusal) → refusal s c ≡ same → answer ≡ judged same refused_by (refused_by BufferTooShort)
    is_own z same h =
        let y = refuses z in
        q ∙ ap (λ (o : Outcome A). o.answer) (IsRefused-as y.0 y.1) ∙ answer-as (refused_by y.0) ∙ sym (rw (sym h ∙ y.1))

  no_place : (answer : A) (buffer : List ℕ) (place : ℕ) {v : Bool} → v ≡ not (ltb (length buffer - place) 4) → not v ≡ true → answer ≡ judged (refusal s c) refused_by (refused_by BufferTooShort)
      → Leaves (recorded buffer place) (asLent answer) buffer place
  unfolding recording
  no_place answer buffer place {v} d b q =
      let room : ltb (length buffer - place) 4 ≡ true = not-false (ltb (length buffer - place) 4) (sym d ∙ not-true v b) in
      leaves_all (asLent answer) (recorded buffer place) buffer place (by_refusal (refusal s c) (λ h. rw (q, h, four h, room)) (λ x h. rw (q, h, IsRefused-as x h)))

  ways : Ways (refusal s c) e outcome report_of recorded asLent refused_by
  ways = record { fine = fits_record; made = is_made; without = no_place; short = is_short; refused = is_own }

abbrev unchanged : {A : Type 0} → Run → List ℕ → List ℕ → A → Outcome A
unchanged s deleted line a = record { run = s; answer = a; rose = 0; deleted = deleted; line = line }

pub checkpoint_ways : (s : Run) (i : ℕ) (deleted : List ℕ) → Ways (checkpoint_refusal s i deleted) (Checkpoint i) (checkpoint_outcome s i deleted) checkpoint_report
    (recorded_checkpoint s i deleted) (unchanged s deleted []) Err
unfolding refusal call answered event_of_call recorded_checkpoint checkpoint_outcome
checkpoint_ways s i deleted =
    ways s (checkpoint i deleted) (Checkpoint i) refl (checkpoint_outcome s i deleted) checkpoint_report refl (unchanged s deleted []) Err (λ x h. rw h) (λ a. refl)

pub send_ways : (s : Run) (i j : ℕ) → Ways (send_refusal s i j) (Send i j) (send_outcome s i j) send_report (recorded_send s i j) (unchanged s [] []) Err
unfolding refusal call answered event_of_call recorded_send send_outcome
send_ways s i j =
    ways s (send i j) (Send i j) refl (send_outcome s i j) send_report refl (unchanged s [] []) Err (λ x h. rw h) (λ a. refl)

pub deliver_ways : (s : Run) (m : ℕ) (deleted : List ℕ) → Ways (deliver_refusal s m deleted) (Deliver m) (deliver_outcome s m deleted) deliver_report
    (recorded_deliver s m deleted) (unchanged s deleted []) Err
unfolding refusal call answered event_of_call recorded_deliver deliver_outcome
deliver_ways s m deleted =
    ways s (deliver m deleted) (Deliver m) refl (deliver_outcome s m deleted) deliver_report refl (unchanged s deleted []) Err (λ x h. rw h) (λ a. refl)

pub lose_ways : (s : Run) (m : ℕ) → Ways (lose_refusal s m) (Lose m) (lose_outcome s m) lose_report (recorded_lose s m) (unchanged s [] []) Err
unfolding refusal call answered event_of_call recorded_lose lose_outcome
lose_ways s m =
    ways s (lose m) (Lose m) refl (lose_outcome s m) lose_report refl (unchanged s [] []) Err (λ x h. rw h) (λ a. refl)

pub recover_ways : (s : Run) (F : ℕ) (deleted lent : List ℕ) → Ways (recover_refusal s F deleted lent) (Recover F) (recover_outcome s F deleted lent) recover_report
    (recorded_recover s F deleted lent) (unchanged s deleted lent) Err
unfolding refusal call answered event_of_call recorded_recover recover_outcome
recover_ways s F deleted lent =
    ways s (recover F deleted lent) (Recover F) refl (recover_outcome s F deleted lent) recover_report refl (unchanged s deleted lent) Err (λ x h. rw h) (λ a. refl)
