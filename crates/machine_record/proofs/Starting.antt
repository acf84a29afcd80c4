-- A start in place through the recorder, in a buffer of no byte or one, and the start in a long buffer.
-- Assumes nothing.
use Rattle.std.specs.Prelude.{◌≡◌, ◌∷◌, ◌++◌, ◌+◌, ◌-◌, ◌≤◌, Err}
use Rattle.laws.specs.Basics.{refl, sym, ◌∙◌, ap, true, false, List, [], None, ℕ, min, arith, eqb, ltb, length, take, drop, length-append, length-replicate, length-drop, sets, length-take-le, eq-eqb, ne_eqb, lt-ltb, le-ltb, ltb-true, ltb-false, by_bool}
use Rattle.laws.specs.Truth.{never_both}
use Rattle.model.specs.Shapes.{StartAnswer}
use Rattle.model.specs.declared.{Refusal.Refusal, Refusal.TheVariants.BufferTooShort}
use Rattle.model.specs.{Words.ones, Steps.start_state, Refusals.start_refusal, laws.Refusals.by_refusal}
use Rattle.whole_runs.specs.Outcomes.{Outcome, Report, start_report, start_outcome}
use Rattle.whole_runs.proofs.whole.Reached.{refused_number}
use Rattle.listing.specs.declared.Summary.{Summary}
use Rattle.listing.specs.{Lines.number_said, Summarised.report_in}
use Rattle.theory_recording.specs.Recording.{unwritten, appended, recording, recorded_start}
use Rattle.words.specs.Layout.{run_of}
use Rattle.library_recorder.specs.Recorded.{recorded_start_in}
use Rattle.machine_record.specs.{Recorded.lent, Recorded.start_number, Recorded.refused_line, Machine.ending, Machine.begun as machine-begun}
use Rattle.machine_record.specs.{Played.longest_line, Played.block_lines, Lent.state_in, Lent.Arrives}
use Rattle.machine_record.proofs.Arriving.{bounds}
use Rattle.in_place.proofs.Starting.{refusal_same, outcome_same}

-- The buffers have the same room for the count.
room_same : (left : ℕ) (buffer : List ℕ) → length buffer ≡ min left 1 → ltb (length buffer) 1 ≡ ltb (length (lent left) - 0) 1
unfolding lent
room_same left buffer e = by_bool (ltb left 1)
    (λ h. lt-ltb (length buffer) 1 (omega (arith, e, ltb-true left 1 h)) ∙ sym (lt-ltb (length (lent left) - 0) 1 (omega (arith, ltb-true left 1 h, length-replicate {A = ℕ} left 0))))
    (λ h. le-ltb (length buffer) 1 (omega (arith, e, ltb-false left 1 h)) ∙ sym (le-ltb (length (lent left) - 0) 1 (omega (arith, ltb-false left 1 h, length-replicate {A = ℕ} left 0))))

pub outcome_in : (n left : ℕ) (buffer : List ℕ) → length buffer ≡ min left 1 → (recorded_start_in 6464 n ones buffer 0).outcome ≡ (recorded_start n ones (lent left)).outcome
unfolding recorded_start_in recorded_start recording unwritten appended
outcome_in n left buffer e = rw (refusal_same n, outcome_same n) (by_refusal (start_refusal n ones)
    (λ fine. by_bool (ltb (length buffer) 1)
    (λ t. rw (fine, t, sym (room_same left buffer e) ∙ t) refl)
    (λ t. rw (fine, t, sym (room_same left buffer e) ∙ t) refl))
    (λ x h. rw h refl))

-- An accepted start.
pub record Accepted (n left : ℕ) : Type 0 where
  pub fine : start_refusal n ones ≡ None
  pub some_left : 1 ≤ left
  pub run : (recorded_start n ones (lent left)).outcome.run ≡ start_state n ones

refused_clash : {P : Type 0} (n left : ℕ) (x : Refusal) → eqb (start_number left n) 0 ≡ true → (recorded_start n ones (lent left)).outcome.answer ≡ Err x → P
unfolding start_number start_report
refused_clash n left x h e = never_both (eqb (start_number left n) 0) h (ap (λ (a : StartAnswer). eqb (start_report a).refused 0) e ∙ refused_number x)

pub accepted : (n left : ℕ) → eqb (start_number left n) 0 ≡ true → Accepted n left
unfolding recorded_start recording unwritten appended start_outcome
accepted n left h = by_refusal (start_refusal n ones)
    (λ fine. by_bool (ltb (length (lent left) - 0) (length (n ∷ [])))
    (λ t. refused_clash n left BufferTooShort h (rw (fine, t) refl))
    (λ t. record { fine = fine; some_left = has_some t; run = rw (fine, t) refl }))
    (λ x e. refused_clash n left x h (rw e refl))
  where
    has_some : ltb (length (lent left) - 0) (length (n ∷ [])) ≡ false → 1 ≤ left
    has_some t = unfold lent in omega (arith, ltb-false (length (lent left) - 0) (length (n ∷ [])) t, length-replicate {A = ℕ} left 0)

pub buffer_in : (n left : ℕ) (buffer : List ℕ) → Accepted n left → length buffer ≡ 1 → (recorded_start_in 6464 n ones buffer 0).buffer ≡ sets buffer 0 (n ∷ [])
unfolding recorded_start_in unwritten appended
buffer_in n left buffer w one = rw (refusal_same n, w.fine) (rw (le-ltb (length buffer) 1 (omega (arith, one))) refl)

one_set : (l : List ℕ) (n : ℕ) → length l ≡ 1 → sets l 0 (n ∷ []) ≡ n ∷ []
one_set [] n h = absurd (omega (arith, h))
one_set (a ∷ []) n h = refl
one_set (a ∷ b ∷ l) n h = absurd (omega (arith, h))

pub number_is : (many n left : ℕ) (buffer : List ℕ) (summary : Summary) (a : StartAnswer) → many ≡ 6464 → length buffer ≡ min left 1 → a ≡ (recorded_start_in many n ones buffer 0).outcome.answer → report_in summary ≡ start_report a
    → number_said summary.refused ≡ start_number left n
unfolding start_number report_in
number_is many n left buffer summary a whole e is sum =
    ap (λ (r : Report). r.refused) (sum ∙ ap start_report (is ∙ ap (λ (k : ℕ). (recorded_start_in k n ones buffer 0).outcome.answer) whole ∙ ap (λ (o : Outcome StartAnswer). o.answer) (outcome_in n left buffer e)))

-- The machine after a start.
pub start_refused : (n left x : ℕ) → x ≡ start_number left n → (x ≡ 0 → ⊥) → machine-begun left n ≡ ending (refused_line 0 x)
unfolding machine-begun
start_refused n left x e h = rw (ne_eqb (start_number left n) 0 (λ k. h (e ∙ k))) (ap (λ (k : ℕ). ending (refused_line 0 k)) (sym e))

pub start_fine : (n left x : ℕ) → x ≡ start_number left n → x ≡ 0 → eqb (start_number left n) 0 ≡ true
start_fine n left x e h = eq-eqb (start_number left n) 0 (sym e ∙ h)

pub long_enough : (x out : List ℕ) (room : ℕ) → length x ≡ length (take room out) → room ≤ length out → block_lines ≤ length out → longest_line ≤ length (x ++ drop room out)
long_enough x out room e h long = omega (arith, length-append x (drop room out), length-drop room out, length-take-le room out h, e, long)

pub arrives_started : (many n left : ℕ) (words' input out' lines buffer buffer' rest_after : List ℕ) → many ≡ 6464 → eqb (start_number left n) 0 ≡ true → left ≤ 4000000001 → length buffer ≡ min left 1
    → run_of words' ≡ (recorded_start_in many n ones buffer 0).outcome.run → buffer' ≡ (recorded_start_in many n ones buffer 0).buffer → out' ≡ buffer' ++ rest_after
    → Arrives (record { phase = 4; left = left - 1; done = 0; kept = 0; size = 1; pending = 0 }) words' input out' lines (machine-begun left n)
unfolding machine-begun state_in
arrives_started many n left words' input out' lines buffer buffer' rest_after whole fine most e run bytes is =
    let w = accepted n left fine in
    let one : length buffer ≡ 1 = omega (arith, e, w.some_left) in
    let state : run_of words' ≡ start_state n ones = run ∙ ap (λ (k : ℕ). (recorded_start_in k n ones buffer 0).outcome.run) whole ∙ ap (λ (o : Outcome StartAnswer). o.run) (outcome_in n left buffer e) ∙ w.run in
    let text : out' ≡ n ∷ rest_after = is ∙ ap (λ (x : List ℕ). x ++ rest_after) (bytes ∙ ap (λ (k : ℕ). (recorded_start_in k n ones buffer 0).buffer) whole ∙ buffer_in n left buffer w one ∙ one_set buffer n one) in
    record {
      bounds = bounds _ (length out') (omega (arith, most)) (omega arith) (omega arith) (omega (arith, ap (λ (x : List ℕ). length x) text)) (omega arith);
      state = rw (fine, text, state) refl;
    }
