-- The three ways of a start in place through the recorder: refused by itself, refused for an empty buffer, and done.
-- Assumes nothing.
use Rattle.std.specs.Prelude.{◌≡◌, ◌∷◌, ◌+◌, ◌≤◌, Err}
use Rattle.laws.specs.Basics.{refl, sym, ◌∙◌, ap, List, [], None, Some, ℕ, arith, ltb, length, sets, eq-eqb, lt-ltb, le-ltb, by_bool}
use Rattle.model.specs.Shapes.{StartAnswer}
use Rattle.model.specs.declared.{Refusal.Refusal, Refusal.TheVariants.BufferTooShort, Refusal.TheVariants.CountOutsideRange}
use Rattle.model.specs.{Words.blank, Refusals.number, Refusals.first_of}
use Rattle.whole_runs.specs.Outcomes.{start_report}
use Rattle.listing.specs.{declared.Summary.Summary, Lines.number_said, Summarised.report_in}
use Rattle.listing.proofs.Summarised.{is_accepted, is_refused}
use Rattle.theory_recording.specs.Recording.{unwritten, appended}
use Rattle.words.specs.{Clean.Clean, Layout.state_size, Layout.run_of}
use Rattle.in_place.specs.Starting.{zeros, start_refusal_in, start_outcome_in, start_words}
use Rattle.in_place.proofs.Starting.{zeros_run, zeros_clean, accepted_size, start_length}
use Rattle.library_recorder.proofs.record.Leaves.{leaves_all, leaves_written}
use Rattle.library_recorder.specs.Recorded.{recorded_start_in, recorded_start_words}

-- A start whose number is 0 is accepted, another is refused.
module _ (many n : ℕ) (block_counts : List ℕ) where
  number_none : start_refusal_in many n block_counts ≡ None → (start_report (start_outcome_in many n block_counts).answer).refused ≡ 0
  unfolding start_outcome_in start_report
  number_none h = rw h

  number_some : (y : Refusal) → start_refusal_in many n block_counts ≡ Some y → (start_report (start_outcome_in many n block_counts).answer).refused ≡ number y
  unfolding start_outcome_in start_report
  number_some y h = rw h

  module _ (answer : StartAnswer) (x : Summary) (e : answer ≡ (start_outcome_in many n block_counts).answer) (t : report_in x ≡ start_report answer) where
    pub start_accepted : number_said x.refused ≡ 0 → start_refusal_in many n block_counts ≡ None
    start_accepted = is_accepted (start_refusal_in many n block_counts) x _ (t ∙ ap start_report e) number_none number_some

    pub start_refused : (number_said x.refused ≡ 0 → ⊥) → (y : Refusal) × (start_refusal_in many n block_counts ≡ Some y)
    start_refused = is_refused (start_refusal_in many n block_counts) x _ (t ∙ ap start_report e) number_none number_some

-- What is said of the words v, the answer, the buffer's bytes and the place that a start leaves.
abbrev pub Replies : List ℕ → ℕ → List ℕ → List ℕ → ℕ → List ℕ → StartAnswer → List ℕ → ℕ → Type 0
Replies w n block_counts buffer place v answer bytes next =
    (run_of v ≡ (recorded_start_in (length w) n block_counts buffer place).outcome.run)
    × ((answer ≡ (recorded_start_in (length w) n block_counts buffer place).outcome.answer)
    × ((bytes ≡ (recorded_start_in (length w) n block_counts buffer place).buffer)
    × ((next ≡ (recorded_start_in (length w) n block_counts buffer place).place)
    × ((v ≡ recorded_start_words w n block_counts buffer) × (length w ≡ 6464 → Clean v)))))

-- A start of no process makes words of the right number zero, and leaves others, as any refused start does.
none_words : (w block_counts : List ℕ) → length w ≡ state_size → start_words w 0 block_counts ≡ zeros
unfolding start_words start_refusal_in first_of
none_words w block_counts long = rw (eq-eqb (length w) state_size long)

module _ (w : List ℕ) (n : ℕ) (block_counts buffer : List ℕ) (place : ℕ) where
  none_refused_lem : start_refusal_in (length w) 0 block_counts ≡ Some CountOutsideRange
  unfolding start_refusal_in first_of
  none_refused_lem = refl

  refused_alike : (x : Refusal) → start_refusal_in (length w) n block_counts ≡ Some x → start_words w n block_counts ≡ start_words w 0 block_counts
  unfolding start_words
  refused_alike x h = rw (h, none_refused_lem) refl

  refused_words : (x : Refusal) → start_refusal_in (length w) n block_counts ≡ Some x → start_words w n block_counts ≡ recorded_start_words w n block_counts buffer
  unfolding recorded_start_words
  refused_words x h = by_bool (ltb (length buffer) 1) (λ b. rw b (refused_alike x h)) (λ b. rw b refl)

  refused_is : (x : Refusal) → start_refusal_in (length w) n block_counts ≡ Some x → recorded_start_in (length w) n block_counts buffer place ≡ unwritten (start_outcome_in (length w) n block_counts) buffer place
  unfolding recorded_start_in
  refused_is x h = rw h refl

  short_is : start_refusal_in (length w) n block_counts ≡ None → length buffer ≡ 0
      → recorded_start_in (length w) n block_counts buffer place ≡ unwritten (record { run = blank 0; answer = Err BufferTooShort; rose = 0; deleted = []; line = [] }) buffer place
  unfolding recorded_start_in
  short_is ok e = rw (ok, lt-ltb (length buffer) 1 (omega arith)) refl

  short_words : length buffer ≡ 0 → recorded_start_words w n block_counts buffer ≡ start_words w 0 block_counts
  unfolding recorded_start_words
  short_words e = rw (lt-ltb (length buffer) 1 (omega arith)) refl

  pub done_is : start_refusal_in (length w) n block_counts ≡ None → 1 ≤ length buffer
      → recorded_start_in (length w) n block_counts buffer place ≡ appended (start_outcome_in (length w) n block_counts) (n ∷ []) buffer 0
  unfolding recorded_start_in
  done_is ok h = rw (ok, le-ltb (length buffer) 1 h) refl

  pub done_words : 1 ≤ length buffer → recorded_start_words w n block_counts buffer ≡ start_words w n block_counts
  unfolding recorded_start_words
  done_words h = rw (le-ltb (length buffer) 1 h) refl

  pub replied_refused : {v : List ℕ} {answer : StartAnswer} (x : Refusal) → start_refusal_in (length w) n block_counts ≡ Some x → answer ≡ (start_outcome_in (length w) n block_counts).answer
      → run_of v ≡ (start_outcome_in (length w) n block_counts).run → v ≡ start_words w n block_counts → (length w ≡ 6464 → Clean v) → Replies w n block_counts buffer place v answer buffer place
  replied_refused x h a r e c =
      let l = leaves_all _ _ _ _ (refused_is x h) in
      (r ∙ l.run, (a ∙ l.answer, (l.buffer, (l.place, (e ∙ refused_words x h, c)))))

  pub replied_short : {u v : List ℕ} → start_refusal_in (length w) n block_counts ≡ None → length buffer ≡ 0 → u ≡ start_words w n block_counts → v ≡ start_words u 0 block_counts
      → Replies w n block_counts buffer place v (Err BufferTooShort) buffer place
  replied_short {u} {v} ok empty e f =
      let long : length w ≡ state_size = accepted_size (length w) n block_counts ok in
      let z : v ≡ zeros = f ∙ none_words u block_counts (ap length e ∙ start_length w n block_counts ∙ long) in
      let l = leaves_all _ _ _ _ (short_is ok empty) in
      (ap run_of z ∙ zeros_run ∙ l.run, (l.answer, (l.buffer, (l.place, (z ∙ sym (none_words w block_counts long) ∙ sym (short_words empty), λ h. rw z zeros_clean)))))

  pub replied_done : {v : List ℕ} {answer : StartAnswer} → start_refusal_in (length w) n block_counts ≡ None → 1 ≤ length buffer → answer ≡ (start_outcome_in (length w) n block_counts).answer
      → run_of v ≡ (start_outcome_in (length w) n block_counts).run → v ≡ start_words w n block_counts → (length w ≡ 6464 → Clean v)
      → Replies w n block_counts buffer place v answer (sets buffer 0 (n ∷ [])) 1
  replied_done ok room a r e c =
      let l = leaves_written _ _ _ _ _ (done_is ok room) in
      (r ∙ l.run, (a ∙ l.answer, (l.buffer, (l.place, (e ∙ sym (done_words room), c)))))
