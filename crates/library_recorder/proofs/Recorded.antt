-- Note 9 of the calls in place: the words, the buffer and the place are what the definitions of the crate theory_recording say, and there the theorem is proved.
-- Assumes nothing.
use Rattle.std.specs.Prelude.{◌≡◌, ◌∷◌, ◌-◌, ◌≤◌, Err, Ok}
use Rattle.laws.specs.Basics.{refl, sym, ◌∙◌, ap, true, List, [], None, Some, ℕ, arith, ltb, length, le-ltb, ltb-false, by_bool}
use Prim.{tt}
use Rattle.model.specs.Shapes.{StartAnswer}
use Rattle.model.specs.declared.{Run.Run, Refusal.Refusal, Refusal.TheVariants.BufferTooShort}
use Rattle.model.specs.{Refusals.start_refusal, laws.Refusals.by_refusal}
use Rattle.whole_runs.specs.{Outcomes.Outcome, Outcomes.start_outcome, Calls.Call}
use Rattle.theory_recording.specs.Recording.{Recorded, unwritten, appended, recording, recorded_start, Tape, begun, tape_after, RecordingReplays}
use Rattle.theory_recording.proofs.Recording.{recording_replays}
use Rattle.words.specs.{Clean.Clean, Layout.run_of}
use Rattle.in_place.specs.Starting.{start_refusal_in, start_outcome_in, StartsTheSame}
use Rattle.in_place.proofs.{Judging.starts_the_same, Starting.accepted_size, Starting.accepted_long, Starting.start_run, Starting.start_clean}
use Rattle.library_recorder.proofs.{record.Leaves.leaves_written, Begun.done_is, Begun.done_words}
use Rattle.library_recorder.specs.Recorded.{recorded_start_in, recorded_start_words, WordTape, tape_of, RecordedAll, begun_in, RecordingReplaysIn}

pub tape_after_lem : (t : WordTape) (calls : List Call) (u : WordTape) → RecordedAll t calls u → tape_of u ≡ tape_after (tape_of t) calls
unfolding RecordedAll tape_after
tape_after_lem t [] u h = ap tape_of h
tape_after_lem t (c ∷ calls) u h = tape_after_lem h.0 calls u h.2 ∙ ap (λ (s : Tape). tape_after s calls) h.1.tape

pub clean_after : (t : WordTape) (calls : List Call) (u : WordTape) → RecordedAll t calls u → Clean t.words → Clean u.words
unfolding RecordedAll
clean_after t [] u h c = rw h c
clean_after t (d ∷ calls) u h c = clean_after h.0 calls u h.2 (h.1.leaves.clean c)

clash : {P : Type 0} (x : Refusal) → ◌≡◌ {A = StartAnswer} (Err x) (Ok tt) → P
clash x z = absurd (let y : ◌≡◌ {A = ℕ} 0 1 = cc in omega arith)

-- An accepted start in place through the recorder is that of the crate theory_recording.
module _ (w : List ℕ) (n : ℕ) (block_counts buffer : List ℕ) (place : ℕ) (e : (recorded_start_in (length w) n block_counts buffer place).outcome.answer ≡ Ok tt) where
  says_refused : (x : Refusal) → start_refusal_in (length w) n block_counts ≡ Some x → (recorded_start_in (length w) n block_counts buffer place).outcome.answer ≡ Err x
  unfolding recorded_start_in unwritten start_outcome_in
  says_refused x h = rw h refl

  says_short : start_refusal_in (length w) n block_counts ≡ None → ltb (length buffer) 1 ≡ true → (recorded_start_in (length w) n block_counts buffer place).outcome.answer ≡ Err BufferTooShort
  unfolding recorded_start_in unwritten
  says_short h b = rw (h, b) refl

  fine : start_refusal_in (length w) n block_counts ≡ None
  fine = by_refusal (start_refusal_in (length w) n block_counts) (λ h. h) (λ x h. clash x (sym (says_refused x h) ∙ e))

  room : 1 ≤ length buffer
  room = ltb-false (length buffer) 1 (by_bool (ltb (length buffer) 1) (λ b. clash BufferTooShort (sym (says_short fine b) ∙ e)) (λ b. b))

  same : start_outcome_in (length w) n block_counts ≡ start_outcome n block_counts
  unfolding StartsTheSame
  same = ap (λ (k : ℕ). start_outcome_in k n block_counts) (accepted_size (length w) n block_counts fine) ∙ starts_the_same n block_counts (accepted_long (length w) n block_counts fine)

  says_own : (x : Refusal) → start_refusal n block_counts ≡ Some x → (start_outcome n block_counts).answer ≡ Err x
  unfolding start_outcome
  says_own x h = rw h refl

  says_started : (start_outcome_in (length w) n block_counts).answer ≡ Ok tt
  unfolding start_outcome_in
  says_started = rw fine refl

  own : start_refusal n block_counts ≡ None
  own = by_refusal (start_refusal n block_counts) (λ h. h) (λ x h. clash x (sym (says_own x h) ∙ ap (λ (o : Outcome StartAnswer). o.answer) (sym same) ∙ says_started))

  by_value : recorded_start n block_counts buffer ≡ appended (start_outcome n block_counts) (n ∷ []) buffer 0
  unfolding recorded_start recording
  by_value = let h = room in rw (own, le-ltb (length buffer - 0) 1 (omega arith)) refl

  whole : recorded_start_in (length w) n block_counts buffer place ≡ recorded_start n block_counts buffer
  whole = done_is w n block_counts buffer place fine room ∙ ap (λ (o : Outcome StartAnswer). appended o (n ∷ []) buffer 0) same ∙ sym by_value

  run_is : run_of (recorded_start_words w n block_counts buffer) ≡ (recorded_start_in (length w) n block_counts buffer place).outcome.run
  run_is = ap run_of (done_words w n block_counts buffer place room) ∙ start_run w n block_counts ∙ (leaves_written _ _ _ _ _ (done_is w n block_counts buffer place fine room)).run

  begins : tape_of (begun_in w n block_counts buffer place) ≡ begun n block_counts buffer
  unfolding tape_of begun_in begun
  begins =
      ap (λ (s : Run). record { run = s; buffer = (recorded_start_in (length w) n block_counts buffer place).buffer; place = (recorded_start_in (length w) n block_counts buffer place).place }) run_is
      ∙ ap (λ (r : Recorded StartAnswer). record { run = r.outcome.run; buffer = r.buffer; place = r.place }) whole

  begins_clean : Clean (begun_in w n block_counts buffer place).words
  unfolding begun_in
  begins_clean = rw (done_words w n block_counts buffer place room) (start_clean w n block_counts (accepted_size (length w) n block_counts fine))

pub recording_replays_in : RecordingReplaysIn
unfolding RecordingReplaysIn RecordingReplays
recording_replays_in w n block_counts buffer place e calls u h =
    let t : tape_of u ≡ tape_after (begun n block_counts buffer) calls = tape_after_lem (begun_in w n block_counts buffer place) calls u h ∙ ap (λ (s : Tape). tape_after s calls) (begins w n block_counts buffer place e) in
    let started : (recorded_start n block_counts buffer).outcome.answer ≡ Ok tt = ap (λ (r : Recorded StartAnswer). r.outcome.answer) (sym (whole w n block_counts buffer place e)) ∙ e in
    (rw t (recording_replays n block_counts buffer started calls), clean_after (begun_in w n block_counts buffer place) calls u h (begins_clean w n block_counts buffer place e))
