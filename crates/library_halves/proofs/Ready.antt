-- The records of a half that are left, and which of them is next.
-- Assumes nothing.
use Rattle.std.specs.Prelude.{Result, Ok, Err, ◌≡◌, ◌∷◌, ◌+◌, ◌*◌, ◌/◌, ◌%◌, ◌⊎◌, ◌≤◌, ◌<◌}
use Rattle.laws.specs.Basics.{refl, ◌∙◌, ap, Bool, true, false, List, [], None, Some, ℕ, suc, arith, eqb, leb, length, take, drop, length-drop, length-take-le, eq-eqb, ne_eqb, eqb-true, le-leb, leb-true, leb-false, by_bool, by_eq}
use lib.Seq.{drop-drop}
use Rattle.laws.specs.Loops.{either}
use Rattle.laws.specs.Truth.{and_left, and_right}
use Rattle.model.specs.{declared.Fields.Fields, declared.Refusal.Refusal, declared.Refusal.TheVariants.NeitherReady, Trace.fields, Trace.if_zero_of}
use Rattle.theory_merges.specs.Halves.{HalfEvent, checkpoint_at, send_to, message_number}
use Rattle.theory_merges.specs.Merge.{stopped, next_is, neither, next_of_second, next_record, is_ready, half_event_of, on_next, take_from, fields_in}
use Rattle.trace.specs.Answers.{record_at, fields_read}
use Rattle.trace.proofs.reader.Fours.{at_least_four, under_four}
use Rattle.library_halves.specs.declared.{taking.Step.Step, taking.Step.TheVariants.First, taking.Step.TheVariants.Second}
use Rattle.library_halves.specs.Taking.{Judges, message_of, left, ready_at, Steps}

-- The fields of four bytes.
pub read_is : (part : List ℕ) → length part ≡ 4 → fields_read part ≡ fields part
unfolding fields_read
read_is part h = rw (eq-eqb (length part) 4 h)

-- What the tests of the code say of `ready_at`.
module _ (l : List HalfEvent) (half : List ℕ) (at : ℕ) (part : List ℕ) (p : part ≡ record_at half (1 + 4 * at)) where
  pub not_ready : (length part ≡ 4 → ⊥) → false ≡ ready_at l half at
  unfolding ready_at
  not_ready h = rw (← p, ne_eqb (length part) 4 h)

  module _ (four : length part ≡ 4) (x : Fields) (f : x ≡ fields part) where
    pub always_ready : (x.kind ≡ 2 → ⊥) → (x.kind ≡ 3 → ⊥) → true ≡ ready_at l half at
    unfolding ready_at is_ready
    always_ready g h = rw (← p, eq-eqb (length part) 4 four, ← f, ne_eqb x.kind 2 g, ne_eqb x.kind 3 h)

    pub sent_ready : (x.kind ≡ 2) ⊎ (x.kind ≡ 3) → leb 1 (message_number l (x.argument / 2097152) (x.argument % 2097152)) ≡ ready_at l half at
    unfolding ready_at is_ready
    sent_ready o = either o
        (λ g. rw (← p, eq-eqb (length part) 4 four, ← f, eq-eqb x.kind 2 g))
        (λ g. rw (← p, eq-eqb (length part) 4 four, ← f, ne_eqb x.kind 2 (omega arith), eq-eqb x.kind 3 g))

-- The cases of `half_event_of`.
module _ (x : Fields) where
  pub half_zero : x.kind ≡ 0 → half_event_of x ≡ if_zero_of x.argument (checkpoint_at x.process)
  unfolding half_event_of
  half_zero e = rw (eq-eqb x.kind 0 e)

  pub half_one : x.kind ≡ 1 → half_event_of x ≡ Some (send_to x.process x.argument)
  unfolding half_event_of
  half_one e = rw (ne_eqb x.kind 0 (omega arith), eq-eqb x.kind 1 e)

  pub half_message : (x.kind ≡ 2) ⊎ (x.kind ≡ 3) → half_event_of x ≡ if_zero_of x.process (message_of x.kind x.argument)
  unfolding half_event_of message_of
  half_message o = either o
      (λ e. rw (ne_eqb x.kind 0 (omega arith), ne_eqb x.kind 1 (omega arith), eq-eqb x.kind 2 e))
      (λ e. rw (ne_eqb x.kind 0 (omega arith), ne_eqb x.kind 1 (omega arith), ne_eqb x.kind 2 (omega arith), eq-eqb x.kind 3 e))

  pub half_none : (x.kind ≡ 0 → ⊥) → (x.kind ≡ 1 → ⊥) → (x.kind ≡ 2 → ⊥) → (x.kind ≡ 3 → ⊥) → half_event_of x ≡ None
  unfolding half_event_of
  half_none a b c d = rw (ne_eqb x.kind 0 a, ne_eqb x.kind 1 b, ne_eqb x.kind 2 c, ne_eqb x.kind 3 d)

-- The records left of a half.
fields_more : (l : List ℕ) → 4 ≤ length l → fields_in l ≡ fields (take 4 l) ∷ fields_in (drop 4 l)
unfolding fields_in
fields_more = at_least_four (λ l. fields_in l ≡ fields (take 4 l) ∷ fields_in (drop 4 l)) (λ a b c d l. refl)

no_fields : (l : List ℕ) → length l < 4 → fields_in l ≡ []
unfolding fields_in
no_fields = under_four (λ l. fields_in l ≡ []) refl (λ a. refl) (λ a b. refl) (λ a b c. refl)

module _ (half : List ℕ) (a : ℕ) where
  pub room : length (record_at half (1 + 4 * a)) ≡ 4 → 1 + 4 * a + 4 ≤ length half
  unfolding record_at
  room h = by_bool (leb (1 + 4 * a + 4) (length half)) (λ e. leb-true (1 + 4 * a + 4) (length half) e) (λ e. absurd (clash (rw e at h)))
    where
      clash : ◌≡◌ {A = ℕ} 0 4 → ⊥
      clash z = omega arith

  pub left_some : length (record_at half (1 + 4 * a)) ≡ 4 → left half a ≡ fields (record_at half (1 + 4 * a)) ∷ left half (a + 1)
  unfolding record_at left
  left_some h =
      let r : 1 + 4 * a + 4 ≤ length half = room h in
      let e : 1 + 4 * a + 4 ≡ 1 + 4 * (a + 1) = omega arith in
      rw (le-leb (1 + 4 * a + 4) (length half) r)
      (fields_more (drop (1 + 4 * a) half) (omega (arith, length-drop (1 + 4 * a) half))
      ∙ ap (λ (t : List ℕ). fields (take 4 (drop (1 + 4 * a) half)) ∷ fields_in t) (drop-drop 4 (1 + 4 * a) half ∙ ap (λ (m : ℕ). drop m half) e))

  pub left_none : (length (record_at half (1 + 4 * a)) ≡ 4 → ⊥) → left half a ≡ []
  unfolding record_at left
  left_none h =
      by_bool (leb (1 + 4 * a + 4) (length half))
      (λ e. absurd (h (rw e (length-take-le 4 (drop (1 + 4 * a) half) (omega (arith, leb-true (1 + 4 * a + 4) (length half) e, length-drop (1 + 4 * a) half))))))
      (λ e. no_fields (drop (1 + 4 * a) half) (omega (arith, leb-false (1 + 4 * a + 4) (length half) e, length-drop (1 + 4 * a) half)))

  module _ (l : List HalfEvent) where
    pub ready_four : ready_at l half a ≡ true → length (record_at half (1 + 4 * a)) ≡ 4
    unfolding ready_at
    ready_four e = eqb-true (length (record_at half (1 + 4 * a))) 4 (and_left (eqb (length (record_at half (1 + 4 * a))) 4) (is_ready l (fields (record_at half (1 + 4 * a)))) e)

    ready_yes : ready_at l half a ≡ true → is_ready l (fields (record_at half (1 + 4 * a))) ≡ true
    unfolding ready_at
    ready_yes e = and_right (eqb (length (record_at half (1 + 4 * a))) 4) (is_ready l (fields (record_at half (1 + 4 * a)))) e

    ready_no : length (record_at half (1 + 4 * a)) ≡ 4 → ready_at l half a ≡ false → is_ready l (fields (record_at half (1 + 4 * a))) ≡ false
    unfolding ready_at
    ready_no h e = rw (eq-eqb (length (record_at half (1 + 4 * a))) 4 h) at e

    next_first : (rest : List Fields) → ready_at l half a ≡ true → next_record l (left half a) rest ≡ next_is true (fields (record_at half (1 + 4 * a))) (left half (a + 1)) rest
    unfolding next_record
    next_first rest e = rw (left_some (ready_four e), ready_yes e)

    next_second : (rest : List Fields) → ready_at l half a ≡ false → next_record l (left half a) rest ≡ next_of_second l (left half a) rest
    unfolding next_record
    next_second rest e =
        by_eq (length (record_at half (1 + 4 * a))) 4
        (λ h. rw (left_some h, ready_no h e))
        (λ h. rw (left_none h))

    second_next : (rest : List Fields) → ready_at l half a ≡ true → next_of_second l rest (left half a) ≡ next_is false (fields (record_at half (1 + 4 * a))) rest (left half (a + 1))
    unfolding next_of_second
    second_next rest e = rw (left_some (ready_four e), ready_yes e)

    second_not : (rest : List Fields) → ready_at l half a ≡ false → next_of_second l rest (left half a) ≡ neither
    unfolding next_of_second
    second_not rest e =
        by_eq (length (record_at half (1 + 4 * a))) 4
        (λ h. rw (left_some h, ready_no h e))
        (λ h. rw (left_none h))

-- The step that the judgement of a record of one half is.
abbrev pub step_of : Bool → Result ℕ Refusal → Result Step Refusal
step_of side (Err q) = Err q
step_of true (Ok w) = Ok (First w)
step_of false (Ok w) = Ok (Second w)

-- One step of the merge.
module _ (n set : ℕ) (l : List HalfEvent) (first second : List ℕ) (a b : ℕ) where
  pub first_taken : (part : List ℕ) → part ≡ record_at first (1 + 4 * a) → ready_at l first a ≡ true → (j : Result ℕ Refusal) → Judges n set true l (half_event_of (fields part)) j
      → Steps n set l first second a b (step_of true j)
  unfolding Judges Steps take_from on_next
  first_taken part p r (Err q) h = λ k. rw (next_first first a l (left second b) r, ← p) (h (λ x. take_from k n set (x ∷ l) (left first (a + 1)) (left second b)))
  first_taken part p r (Ok w) (x, e, f, h) = (
    x,
    e,
    f,
    room first a (ready_four first a l r),
    λ k. rw (next_first first a l (left second b) r, ← p) (h (λ y. take_from k n set (y ∷ l) (left first (a + 1)) (left second b))),
  )

  module _ (no : ready_at l first a ≡ false) where
    pub second_taken : (part : List ℕ) → part ≡ record_at second (1 + 4 * b) → ready_at l second b ≡ true → (j : Result ℕ Refusal) → Judges n set false l (half_event_of (fields part)) j
        → Steps n set l first second a b (step_of false j)
    unfolding Judges Steps take_from on_next
    second_taken part p r (Err q) h =
        λ k. rw (next_second first a l (left second b) no, second_next second b l (left first a) r, ← p) (h (λ x. take_from k n set (x ∷ l) (left first a) (left second (b + 1))))
    second_taken part p r (Ok w) (x, e, f, h) = (
      x,
      e,
      f,
      room second b (ready_four second b l r),
      λ k. rw (next_second first a l (left second b) no, second_next second b l (left first a) r, ← p) (h (λ y. take_from k n set (y ∷ l) (left first a) (left second (b + 1)))),
    )

    pub neither_ready : ready_at l second b ≡ false → (k : ℕ) → take_from (suc k) n set l (left first a) (left second b) ≡ stopped NeitherReady
    unfolding take_from on_next
    neither_ready r k = rw (next_second first a l (left second b) no, second_not second b l (left first a) r)
