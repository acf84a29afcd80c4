-- What a merge of what is held comes to: the trace or the line that the program puts.
-- Assumes nothing.
use Rattle.std.specs.Prelude.{◌≡◌, ◌∷◌, ◌+◌, ◌≤◌, Err, Ok}
use Rattle.laws.specs.Basics.{refl, sym, ◌∙◌, ap, List, [], None, ℕ, zero, suc, arith, length, take, drop, replicate, sets, le-ltb}
use lib.Seq.{sets-eq, take_at}
use Rattle.model.specs.{Shapes.MergeAnswer, declared.Fields.Fields, declared.Refusal.Refusal, laws.Refusals.by_refusal}
use Rattle.theory_merges.specs.Halves.{HalfEvent}
use Rattle.theory_merges.specs.Merge.{half_event_of, next_record, Taken, stopped, took, take_from, take_all, count_of, after_first_byte, fields_in, merge_refusal, plain_bytes, MergeOutcome, finished, merge_outcome}
use Rattle.theory_merges.proofs.{Keeping.next_out, Keeping.record_out, Replaying.plain_length, Replaying.how_many_lem, Replaying.fine}
use Rattle.library_halves.proofs.Rules.{after_first_is}
use Rattle.machine_merge.specs.Printed.{refusing, putting, printed}
use Rattle.machine_merge.proofs.Standing.{long_enough, refused_text_lem}

-- All records are taken, each once.
took_all : (n set k : ℕ) (T taken : List HalfEvent) (first second : List Fields) → take_from k n set taken first second ≡ took T → length T ≡ length taken + k
unfolding take_from
took_all n set zero T taken first second e = let q : taken ≡ T = cc in omega (arith, ap length q)
took_all n set (suc k) T taken first second e =
    let z = next_out n set taken T (λ x a b. take_from k n set (x ∷ taken) a b) (next_record taken first second) e in
    let w = record_out n set taken T z.0 (λ x. take_from k n set (x ∷ taken) z.2 z.3) (half_event_of z.1) z.5 in
    omega (arith, took_all n set k T (w.0 ∷ taken) z.2 z.3 w.3)

module _ (first second : List ℕ) (F : ℕ) (buffer : List ℕ) (room : length first + length second ≤ length buffer) where
  -- The buffer is long enough, so how long it is does not matter.
  refusal_is : merge_refusal first second F buffer ≡ merge_refusal first second F (replicate (length first + length second) 0)
  unfolding merge_refusal
  refusal_is = rw (le-ltb (length buffer) (length first + length second) room, long_enough (length first + length second))

  -- The bytes of a trace at the front of the buffer.
  front : (bytes : List ℕ) → length bytes ≤ length buffer → take (length bytes) (sets buffer 0 bytes) ≡ bytes
  front bytes h = ap (take (length bytes)) (sets-eq bytes buffer 0 (omega (arith, h))) ∙ take_at bytes (drop (0 + length bytes) buffer) (length bytes) refl

  -- What the answer and the buffer are worth.
  pub record Worth (o : MergeOutcome) : Type 0 where
    pub refused : (q : Refusal) → o.answer ≡ Err q → printed first second F ≡ refusing q
    pub fits : (size : ℕ) → o.answer ≡ Ok size → size ≤ length buffer
    pub merged : (size : ℕ) → o.answer ≡ Ok size → ((printed first second F).trace ≡ take size o.buffer) × ((printed first second F).refusal ≡ [])

  same_refusal : (q r : Refusal) → ◌≡◌ {A = MergeAnswer} (Err r) (Err q) → r ≡ q
  same_refusal q r e = cc

  not_merged : (r : Refusal) (size : ℕ) → ◌≡◌ {A = MergeAnswer} (Err r) (Ok size) → ⊥
  not_merged r size e = let z : ◌≡◌ {A = ℕ} 0 1 = cc in omega arith

  not_refused : (r : Refusal) (size : ℕ) → ◌≡◌ {A = MergeAnswer} (Ok size) (Err r) → ⊥
  not_refused r size e = let z : ◌≡◌ {A = ℕ} 0 1 = cc in omega arith

  same_size : (size bytes : ℕ) → ◌≡◌ {A = MergeAnswer} (Ok bytes) (Ok size) → bytes ≡ size
  same_size size bytes e = cc

  worth_refused : (r : Refusal) → printed first second F ≡ refusing r → Worth (record { answer = Err r; buffer = buffer })
  worth_refused r p = record {
    refused = λ q e. p ∙ ap refusing (same_refusal q r e);
    fits = λ size e. absurd (not_merged r size e);
    merged = λ size e. absurd (not_merged r size e);
  }

  module _ (none-holds : merge_refusal first second F buffer ≡ None) where
    printed_is : printed first second F ≡ putting (count_of first) (take_all first second F)
    unfolding printed
    printed_is = rw (sym refusal_is ∙ none-holds)

    worth_taken : (t : Taken) → take_all first second F ≡ t → Worth (finished (count_of first) buffer t)
    unfolding finished putting
    worth_taken (stopped r) e = worth_refused r (printed_is ∙ ap (putting (count_of first)) e)
    worth_taken (took taken) e =
        let f = fine first second F buffer none-holds in
        let many : length taken ≡ 0 + (length (fields_in (after_first_byte first)) + length (fields_in (after_first_byte second))) = took_all (count_of first) F _ taken [] _ _ e in
        let long : 1 + length (plain_bytes taken) ≤ length buffer = omega (
          arith,
          plain_length taken,
          many,
          how_many_lem (after_first_byte first),
          how_many_lem (after_first_byte second),
          after_first_is first,
          after_first_is second,
          f.first_byte,
          f.second_byte,
          room,
        ) in
        let size_is : length (count_of first ∷ plain_bytes taken) ≡ 1 + length (plain_bytes taken) = omega arith in
        let p = printed_is ∙ ap (putting (count_of first)) e in
        record {
          refused = λ q d. absurd (not_refused q _ d);
          fits = λ size d. rw (← same_size size _ d) long;
          merged = λ size d. rw (← same_size size _ d, ← size_is, p) (sym (front (count_of first ∷ plain_bytes taken) (omega (arith, long, size_is))), refl);
        }

  pub worth : Worth (merge_outcome first second F buffer)
  unfolding merge_outcome
  worth = by_refusal (merge_refusal first second F buffer)
      (λ e. rw e (worth_taken e (take_all first second F) refl))
      (λ x e. rw e (worth_refused x (refused_text_lem first second F x (sym refusal_is ∙ e))))
