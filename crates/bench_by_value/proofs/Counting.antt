-- The iterations of a loop over the records of a trace: nothing taken yet, one record more, and where it stops.
-- Assumes nothing.
use Rattle.std.specs.Prelude.{◌≡◌, ◌&&◌, ◌∷◌, ◌++◌, ◌+◌, ◌*◌, ◌≤◌, ◌<◌}
use Rattle.laws.specs.Basics.{refl, sym, ◌∙◌, ap, Bool, true, false, List, [], append-nil, Option, ℕ, zero, suc, arith, eqb, ltb, length, take, drop, length-append, length-drop, length-take-le, eq-eqb, ltb-true, ltb-false, le-leb, leb-true, leb-false, pick, by_bool}
use lib.ListN.{take-append-drop}
use lib.Seq.{drop-drop, take-add, take_all}
use Rattle.laws.specs.{Lists.select, Select.select_append, Truth.and_left, Truth.and_right}
use Rattle.model.specs.{declared.Event.Event, declared.Run.Run, Trace.decoded}
use Rattle.whole_runs.specs.{Calls.Reply, Listing.most_records, Listing.perform, Listing.state_after_records}
use Rattle.whole_runs.proofs.Blocks.{states_by_block, next_length, next_state}
use Rattle.trace.specs.{Answers.record_at, Answers.event_in, reader.Reading.record_after_of, reader.Reading.record_left_of}
use Rattle.theory_recording.specs.Replay.{replies_of}
use Rattle.theory_recording.proofs.Replay.{first_reply}
use Rattle.bench_by_value.specs.Timed.{Timed, records_taken, accepted_of, timed_records}

-- The replies block by block, and those of one record and of left-over bytes.
replies_by_block : (k : ℕ) (s : Run) (block rest : List ℕ) → length block ≡ 4 * k
    → replies_of s (block ++ rest) ≡ replies_of s block ++ replies_of (state_after_records s block) rest
unfolding replies_of state_after_records
replies_by_block zero s [] rest h = refl
replies_by_block (suc k) s [] rest h = absurd (omega arith)
replies_by_block k s (a ∷ []) rest h = absurd (omega arith)
replies_by_block k s (a ∷ b ∷ []) rest h = absurd (omega arith)
replies_by_block k s (a ∷ b ∷ c ∷ []) rest h = absurd (omega arith)
replies_by_block zero s (a ∷ b ∷ c ∷ d ∷ l) rest h = absurd (omega arith)
replies_by_block (suc k) s (a ∷ b ∷ c ∷ d ∷ l) rest h =
    let o = perform s (decoded (a ∷ b ∷ c ∷ d ∷ [])) in
    ap (λ (m : List Reply). o.reply ∷ m) (replies_by_block k o.run l rest (omega arith))

one_reply : (s : Run) (r : List ℕ) → length r ≡ 4 → replies_of s r ≡ (perform s (decoded r)).reply ∷ []
unfolding replies_of
one_reply s r h = ap (replies_of s) (sym (append-nil r)) ∙ first_reply s r [] h

left_over : (s : Run) (l : List ℕ) → length l < 4 → (replies_of s l ≡ []) × (state_after_records s l ≡ s)
unfolding replies_of state_after_records
left_over s [] h = (refl, refl)
left_over s (a ∷ []) h = (refl, refl)
left_over s (a ∷ b ∷ []) h = (refl, refl)
left_over s (a ∷ b ∷ c ∷ []) h = (refl, refl)
left_over s (a ∷ b ∷ c ∷ d ∷ l) h = absurd (omega arith)

-- One reply more.
accepted_more : (l : List Reply) (r : Reply) → accepted_of (l ++ (r ∷ [])) ≡ accepted_of l + pick (eqb r.report.refused 0) 1 0
unfolding accepted_of select
accepted_more l r =
    let t : Reply → Bool = λ x. eqb x.report.refused 0 in
    ap length (select_append t l (r ∷ [])) ∙ length-append (select t l) (select t (r ∷ []))
    ∙ by_bool (t r) (λ e. rw e) (λ e. rw e)

pub at_most_one : (b : Bool) (one : ℕ) → one ≡ pick b 1 0 → one ≤ 1
at_most_one true one e = omega arith
at_most_one false one e = omega arith

-- The records of a trace that are taken so far: how many of them were accepted, and the state after them.
pub record SoFar (s : Run) (trace : List ℕ) (run : Run) (accepted taken : ℕ) : Type 0 where
  pub within : 4 * taken ≤ length (drop 1 trace)
  pub few : taken ≤ most_records
  pub less : accepted ≤ taken
  pub state : run ≡ state_after_records s (take (4 * taken) (drop 1 trace))
  pub count : accepted ≡ accepted_of (replies_of s (take (4 * taken) (drop 1 trace)))

pub none_taken : (s : Run) (trace : List ℕ) → SoFar s trace s 0 0
unfolding replies_of state_after_records accepted_of select
none_taken s trace = record { within = omega arith; few = omega arith; less = omega arith; state = refl; count = refl }

-- A record is left, and it may be taken.
pub record Takes (trace : List ℕ) (taken : ℕ) : Type 0 where
  pub few : taken < most_records
  pub left : 4 * taken + 5 ≤ length trace

pub next_taken : (trace : List ℕ) (taken : ℕ) {more : Bool} → more ≡ (ltb taken most_records && record_left_of trace taken) → more ≡ true → Takes trace taken
unfolding record_left_of
next_taken trace taken e more =
    let both = sym e ∙ more in
    record {
      few = ltb-true taken most_records (and_left (ltb taken most_records) _ both);
      left = omega (arith, leb-true (1 + 4 * taken + 4) (length trace) (and_right (ltb taken most_records) _ both));
    }

-- The part that is handed on is the record.
record_read : (trace : List ℕ) (taken : ℕ) → Takes trace taken → event_in (record_after_of trace taken) ≡ decoded (take 4 (drop (4 * taken) (drop 1 trace)))
unfolding record_after_of record_at event_in
record_read trace taken t =
    let part = take 4 (drop (1 + 4 * taken) trace) in
    let long : length part ≡ 4 = length-take-le 4 (drop (1 + 4 * taken) trace) (omega (arith, t.left, length-drop (1 + 4 * taken) trace)) in
    let same : part ≡ take 4 (drop (4 * taken) (drop 1 trace)) = ap (take 4) (sym (drop-drop (4 * taken) 1 trace)) in
    rw (le-leb (1 + 4 * taken + 4) (length trace) (omega (arith, t.left)), eq-eqb (length part) 4 long) (ap decoded same)

module _ (s : Run) (trace : List ℕ) (run : Run) (accepted taken : ℕ) (so_far : SoFar s trace run accepted taken) where
  module _ (t : Takes trace taken) where
    room : 4 * taken + 4 ≤ length (drop 1 trace)
    room = omega (arith, t.left, length-drop 1 trace)

    four_more : 4 * (taken + 1) ≡ 4 * taken + 4
    four_more = omega arith

    next_count : accepted_of (replies_of s (take (4 * taken + 4) (drop 1 trace)))
        ≡ accepted_of (replies_of s (take (4 * taken) (drop 1 trace)))
        + pick (eqb (perform (state_after_records s (take (4 * taken) (drop 1 trace))) (decoded (take 4 (drop (4 * taken) (drop 1 trace))))).reply.report.refused 0) 1 0
    next_count =
        let first = take (4 * taken) (drop 1 trace) in
        let second = take 4 (drop (4 * taken) (drop 1 trace)) in
        ap (λ (l : List ℕ). accepted_of (replies_of s l)) (take-add (4 * taken) 4 (drop 1 trace))
        ∙ ap accepted_of (replies_by_block taken s first second (length-take-le (4 * taken) (drop 1 trace) so_far.within))
        ∙ ap (λ (m : List Reply). accepted_of (replies_of s first ++ m)) (one_reply (state_after_records s first) second (next_length taken 0 s (drop 1 trace) room))
        ∙ accepted_more (replies_of s first) (perform (state_after_records s first) (decoded second)).reply

    pub one_taken : (e : Option Event) → e ≡ event_in (record_after_of trace taken) → (next-run : Run) → next-run ≡ (perform run e).run
        → (one : ℕ) → one ≡ pick (eqb (perform run e).reply.report.refused 0) 1 0 → SoFar s trace next-run (accepted + one) (taken + 1)
    one_taken e read next-run after one adds =
        let is = read ∙ record_read trace taken t in
        record {
          within = omega (arith, room);
          few = omega (arith, t.few);
          less = omega (arith, so_far.less, at_most_one (eqb (perform run e).reply.report.refused 0) one adds);
          state = after ∙ rw (is, so_far.state, four_more) (sym (next_state taken 0 s (drop 1 trace) room));
          count = rw (four_more, next_count) (ap (λ (k : ℕ). k + one) so_far.count ∙ ap (λ (k : ℕ). accepted_of (replies_of s (take (4 * taken) (drop 1 trace))) + k) (adds ∙ rw (is, so_far.state)));
        }

  -- Where the next one may not be taken, or none is left, these are all that are taken.
  short : length (drop 1 trace) < 4 * taken + 4 → timed_records s (drop 1 trace) ≡ timed_records s (take (4 * taken) (drop 1 trace))
  unfolding timed_records
  short h =
      let first = take (4 * taken) (drop 1 trace) in
      let rest = drop (4 * taken) (drop 1 trace) in
      let whole : first ++ rest ≡ drop 1 trace = take-append-drop (4 * taken) (drop 1 trace) in
      let long : length first ≡ 4 * taken = length-take-le (4 * taken) (drop 1 trace) so_far.within in
      let none = left_over (state_after_records s first) rest (omega (arith, length-drop (4 * taken) (drop 1 trace))) in
      let replies : replies_of s (drop 1 trace) ≡ replies_of s first
      = ap (replies_of s) (sym whole) ∙ replies_by_block taken s first rest long ∙ ap (λ (m : List Reply). replies_of s first ++ m) none.0 ∙ append-nil (replies_of s first) in
      let state : state_after_records s (drop 1 trace) ≡ state_after_records s first
      = ap (state_after_records s) (sym whole) ∙ states_by_block taken s first rest long ∙ none.1 in
      rw (replies, state)

  same : {more : Bool} → more ≡ (ltb taken most_records && record_left_of trace taken) → more ≡ false
      → timed_records s (take (4 * taken) (drop 1 trace)) ≡ timed_records s (records_taken trace)
  unfolding records_taken record_left_of
  same e over = by_bool (ltb taken most_records)
      (λ q.
      let none = leb-false (1 + 4 * taken + 4) (length trace) (rw q at (sym e ∙ over)) in
      let few : length (drop 1 trace) < 4 * taken + 4 = omega (arith, none, length-drop 1 trace, so_far.within) in
      sym (short few) ∙ ap (timed_records s) (sym (take_all (4 * most_records) (drop 1 trace) (omega (arith, few, ltb-true taken most_records q)))))
      (λ q.
      let last : taken ≡ most_records = omega (arith, so_far.few, ltb-false taken most_records q) in
      ap (λ (k : ℕ). timed_records s (take (4 * k) (drop 1 trace))) last)

  pub all_taken : {more : Bool} → more ≡ (ltb taken most_records && record_left_of trace taken) → more ≡ false
      → (accepted ≡ (timed_records s (records_taken trace)).accepted) × (run ≡ (timed_records s (records_taken trace)).run)
  unfolding timed_records
  all_taken e over = (so_far.count ∙ ap (λ (x : Timed). x.accepted) (same e over), so_far.state ∙ ap (λ (x : Timed). x.run) (same e over))
