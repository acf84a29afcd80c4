-- Note 12, proved: the bytes of a merge are a plain trace, and replaying them is the run of the merged calls.
-- Assumes nothing.
use Rattle.std.specs.Prelude.{◌≡◌, ◌∷◌, ◌++◌, ◌+◌, ◌*◌, ◌/◌, ◌≤◌, ◌<◌, Err}
use Rattle.laws.specs.Basics.{refl, sym, ◌∙◌, ap, Bool, true, false, List, [], append-nil, append_assoc, Option, None, Some, ℕ, zero, suc, arith, eqb, leb, length, length-append, eqb-false, lt-ltb, ltb-false, leb-true, leb-false, not-false, by_bool}
use Rattle.laws.specs.{Options.some_same, Truth.and_right, Truth.or_none}
use Rattle.model.specs.declared.{Fields.Fields, Refusal.Refusal, Run.Run, Event.Event}
use Rattle.model.specs.{Words.most_processes, laws.Refusals.no_rule, laws.Refusals.number_range}
use Rattle.model.specs.Trace.{decoded, fields_of, fits, word_of_def, bytes_of_def, encoded}
use Rattle.whole_runs.specs.{Calls.Call, Calls.call, Calls.state_after, Listing.call_of, Listing.perform, Listing.state_after_records}
use Rattle.theory_merges.specs.Halves.{HalfEvent, checkpoint_at, send_to, deliver_of, lose_of, is_send, how_many, is_send_number, message_number, plain_event, calls_from, newest_first}
use Rattle.theory_merges.specs.Merge.{half_event_of, next_record, out_of_run, record_refusal, Taken, stopped, took, take_from, fields_in, count_of, after_first_byte, bad_count, too_many, merge_refusal, plain_bytes, MergeOutcome, finished, merge_outcome, merge_report, MergeKeeps, MergeReplays, MergePromise}
use Rattle.theory_merges.proofs.Keeping.{next_out, record_out, merge_keeps}
use Rattle.model.proofs.Records.{records_are_events}
use Rattle.whole_runs.proofs.{Blocks.states_by_block, Blocks.one_state, WholeRuns.after_one}

-- A run-wide number is at most the count of the records taken.
sends_few : (l : List HalfEvent) → how_many is_send l ≤ length l
unfolding how_many
sends_few [] = omega arith
sends_few (x ∷ l) = by_bool (is_send x) (λ e. rw e (omega (arith, sends_few l))) (λ e. rw e (omega (arith, sends_few l)))

pub number_few : (l : List HalfEvent) (s c : ℕ) → message_number l s c ≤ length l
unfolding message_number
number_few [] s c = omega arith
number_few (x ∷ l) s c = by_bool (is_send_number s c x l) (λ e. rw e (omega (arith, sends_few l))) (λ e. rw e (omega (arith, number_few l s c)))

-- The event of a record that is no process's outside the run fits its four bytes.
plain_fits : (n : ℕ) (l : List HalfEvent) (x : HalfEvent) → n ≤ most_processes → length l < 33554432 → out_of_run n x ≡ false → fits (plain_event l x) ≡ true
unfolding plain_event fits fields_of out_of_run
plain_fits n l (checkpoint_at p) b h e = rw (lt-ltb p 16 (omega (arith, leb-false n p e)))
plain_fits n l (send_to i j) b h e =
    let inside = or_none (leb n i) (leb n j) e in
    let hi : i < n = leb-false n i inside.0 in
    let hj : j < n = leb-false n j inside.1 in
    rw (lt-ltb i 16 (omega arith), lt-ltb j 33554432 (omega arith))
plain_fits n l (deliver_of s c) b h e = rw (lt-ltb (message_number l s c) 33554432 (omega (arith, number_few l s c)))
plain_fits n l (lose_of s c) b h e = rw (lt-ltb (message_number l s c) 33554432 (omega (arith, number_few l s c)))

-- Each record taken fits.
Fitting : List HalfEvent → Type 0
Fitting [] = 0 ≤ 0
Fitting (x ∷ l) = (fits (plain_event l x) ≡ true) × Fitting l

module _ (n set : ℕ) (b : n ≤ most_processes) where
  in_run : (side : Bool) (taken : List HalfEvent) (x : HalfEvent) → record_refusal n set side taken x ≡ None → out_of_run n x ≡ false
  unfolding record_refusal
  in_run side taken x e = no_rule _ e 0

  all_fit : (k : ℕ) (T taken : List HalfEvent) (first second : List Fields) → length taken + k < 33554432 → take_from k n set taken first second ≡ took T → Fitting taken → Fitting T
  unfolding take_from Fitting
  all_fit zero T taken first second h e f = let q : taken ≡ T = cc in rw (← q) f
  all_fit (suc k) T taken first second h e f =
      let z = next_out n set taken T (λ x a b. take_from k n set (x ∷ taken) a b) (next_record taken first second) e in
      let w = record_out n set taken T z.0 (λ x. take_from k n set (x ∷ taken) z.2 z.3) (half_event_of z.1) z.5 in
      all_fit k T (w.0 ∷ taken) z.2 z.3 (omega (arith, h)) w.3 (plain_fits n taken w.0 b (omega arith) (in_run z.0 taken w.0 w.2), f)

-- The four bytes of an event that fits stand for it.
stands_for : (e : Event) → fits e ≡ true → decoded (bytes_of_def (word_of_def (fields_of e))) ≡ Some e
unfolding encoded
stands_for e h =
    let w = records_are_events.one_record e h in
    let same : bytes_of_def (word_of_def (fields_of e)) ≡ w.0 = some_same (rw h at w.1) in
    ap decoded same ∙ w.4

-- A word has four bytes.
pub four_bytes : (w : ℕ) → length (bytes_of_def w) ≡ 4
unfolding bytes_of_def
four_bytes w = refl

pub plain_length : (l : List HalfEvent) → length (plain_bytes l) ≡ 4 * length l
unfolding plain_bytes
plain_length [] = refl
plain_length (x ∷ l) = length-append (plain_bytes l) (bytes_of_def (word_of_def (fields_of (plain_event l x)))) ∙ omega (arith, plain_length l, four_bytes (word_of_def (fields_of (plain_event l x))))

-- The calls of records taken, which stand the newest first.
calls_of : List HalfEvent → List Call
calls_of [] = []
calls_of (x ∷ l) = calls_of l ++ (call_of (plain_event l x) ∷ [])

performed : (t : Run) (e : Event) (r : List ℕ) → decoded r ≡ Some e → (perform t (decoded r)).run ≡ (call t (call_of e)).run
unfolding perform
performed t e r d = rw d

replayed : (s : Run) (l : List HalfEvent) → Fitting l → state_after_records s (plain_bytes l) ≡ state_after s (calls_of l)
unfolding plain_bytes Fitting calls_of state_after state_after_records
replayed s [] f = refl
replayed s (x ∷ l) (f, g) =
    let r = bytes_of_def (word_of_def (fields_of (plain_event l x))) in
    states_by_block (length l) s (plain_bytes l) r (plain_length l)
    ∙ ap (λ (t : Run). state_after_records t r) (replayed s l g)
    ∙ one_state (state_after s (calls_of l)) r (four_bytes (word_of_def (fields_of (plain_event l x))))
    ∙ performed (state_after s (calls_of l)) (plain_event l x) r (stands_for (plain_event l x) f)
    ∙ sym (after_one s (calls_of l) (call_of (plain_event l x)))

calls_are : (taken order : List HalfEvent) → calls_of (newest_first taken order) ≡ calls_of taken ++ calls_from taken order
unfolding newest_first calls_from calls_of
calls_are taken [] = sym (append-nil (calls_of taken))
calls_are taken (x ∷ order) = calls_are (x ∷ taken) order ∙ append_assoc (calls_of taken) (call_of (plain_event taken x) ∷ []) (calls_from (x ∷ taken) order)

reversed_length : (taken order : List HalfEvent) → length (newest_first taken order) ≡ length taken + length order
unfolding newest_first
reversed_length taken [] = omega arith
reversed_length taken (x ∷ order) = reversed_length (x ∷ taken) order ∙ omega arith

-- Note 12: replaying the merged bytes is the run of the merged calls.
pub merge_replays : MergeReplays
unfolding MergeReplays Fitting calls_of
merge_replays n set first second order b h e =
    let f = all_fit n set b (length first + length second) (newest_first [] order) [] first second (omega arith) e (omega arith) in (
      omega (arith, plain_length (newest_first [] order), reversed_length [] order),
      λ s. replayed s (newest_first [] order) f ∙ ap (state_after s) (calls_are [] order),
    )

-- How many records a half has.
pub how_many_lem : (l : List ℕ) → length (fields_in l) ≡ length l / 4
unfolding fields_in
how_many_lem [] = refl
how_many_lem (a ∷ []) = refl
how_many_lem (a ∷ b ∷ []) = refl
how_many_lem (a ∷ b ∷ c ∷ []) = refl
how_many_lem (a ∷ b ∷ c ∷ d ∷ l) = let h = how_many_lem l in omega arith

pub good_count : (l : List ℕ) → bad_count l ≡ false → count_of l ≤ most_processes
unfolding bad_count count_of
good_count [] e = omega arith
good_count (n ∷ l) e = leb-true n most_processes (and_right (leb 1 n) (leb n most_processes) (not-false _ e))

-- Two halves and a buffer that no rule refuses before any record.
pub record Fine (first second buffer : List ℕ) : Type 0 where
  pub count : count_of first ≤ most_processes
  pub room : length first + length second ≤ length buffer
  pub first_byte : length first ≡ 0 → ⊥
  pub second_byte : length second ≡ 0 → ⊥
  pub few_first : length (after_first_byte first) / 4 ≤ 4096
  pub few_second : length (after_first_byte second) / 4 ≤ 4096

pub fine : (first second : List ℕ) (F : ℕ) (buffer : List ℕ) → merge_refusal first second F buffer ≡ None → Fine first second buffer
unfolding merge_refusal
fine first second F buffer e =
    let fails = no_rule _ e in
    let bytes = or_none (eqb (length first) 0) (eqb (length second) 0) (fails 2) in
    let few = or_none (too_many first) (too_many second) (fails 6) in
    record {
      count = good_count first (or_none (bad_count first) (bad_count second) (fails 0)).0;
      room = ltb-false (length buffer) (length first + length second) (fails 1);
      first_byte = eqb-false (length first) 0 bytes.0;
      second_byte = eqb-false (length second) 0 bytes.1;
      few_first = ltb-false 4096 (length (after_first_byte first) / 4) few.0;
      few_second = ltb-false 4096 (length (after_first_byte second) / 4) few.1;
    }

module _ (first second : List ℕ) (F : ℕ) (buffer : List ℕ) where
  abbrev A : List Fields
  A = fields_in (after_first_byte first)

  abbrev B : List Fields
  B = fields_in (after_first_byte second)

  abbrev whole : Taken
  whole = take_from (length A + length B) (count_of first) F [] A B

  -- A merge that is not refused.
  not_refused : (r : Refusal) → (merge_report (Err r)).refused ≡ 0 → ⊥
  unfolding merge_report
  not_refused r e = omega (arith, e, (number_range r).0)

  no_number : (o : Option Refusal) → merge_refusal first second F buffer ≡ o → (merge_report (merge_outcome first second F buffer).answer).refused ≡ 0 → o ≡ None
  unfolding merge_outcome
  no_number None e q = refl
  no_number (Some r) e q = absurd (not_refused r (rw e at q))

  all_taken : (m : Taken) → (merge_report (finished (count_of first) buffer m).answer).refused ≡ 0
      → (taken : List HalfEvent) × (m ≡ took taken) × ((merge_report (finished (count_of first) buffer m).answer).value ≡ Some (1 + length (plain_bytes taken)))
  unfolding finished merge_report
  all_taken (stopped r) q = absurd (omega (arith, q, (number_range r).0))
  all_taken (took taken) q = (taken, refl, refl)

  outcome_is : merge_refusal first second F buffer ≡ None → merge_outcome first second F buffer ≡ finished (count_of first) buffer whole
  unfolding merge_outcome
  outcome_is e = rw e

  -- Note 12: what a merge that is not refused leaves.
  pub merge_promise : MergePromise first second F buffer
  unfolding MergePromise finished MergeKeeps MergeReplays
  merge_promise q =
      let e = no_number (merge_refusal first second F buffer) refl q in
      let o = outcome_is e in
      let t = all_taken whole (sym (ap (λ (u : MergeOutcome). (merge_report u.answer).refused) o) ∙ q) in
      let k = merge_keeps (count_of first) F A B t.0 t.1 in
      let m : whole ≡ took (newest_first [] k.2) = t.1 ∙ ap took k.8 in
      let c = fine first second F buffer e in
      let few : length A + length B < 33554432 = omega (arith, how_many_lem (after_first_byte first), how_many_lem (after_first_byte second), c.few_first, c.few_second) in
      let r = merge_replays (count_of first) F A B k.2 c.count few m in
      let long : 1 + length (plain_bytes t.0) ≡ 1 + 4 * length k.2 = ap (λ (l : List HalfEvent). 1 + length (plain_bytes l)) k.8 ∙ ap (λ (b : ℕ). 1 + b) r.0 in (
        k.0,
        k.1,
        k.2,
        k.3,
        k.4,
        k.5,
        k.6,
        k.7,
        ap (λ (u : MergeOutcome). (merge_report u.answer).value) o ∙ t.2 ∙ ap Some long,
        ap (λ (u : MergeOutcome). u.buffer) (o ∙ ap (finished (count_of first) buffer) m),
        r.1,
      )
