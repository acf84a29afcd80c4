-- The iterations of the loop over a block: nothing taken yet, one record more, and where it stops.
-- Assumes nothing.
use Rattle.std.specs.Prelude.{◌≡◌, ◌&&◌, ◌∷◌, ◌+◌, ◌-◌, ◌*◌, ◌≤◌, ◌<◌}
use Rattle.laws.specs.Basics.{refl, sym, ◌∙◌, ap, Bool, true, false, List, [], Option, None, Some, ℕ, suc, arith, ltb, leb, length, take, drop, length-drop, sets, length-take-le, eq-eqb, ltb-true, le-leb, lt-leb, leb-true, leb-false, pick, by_bool}
use lib.Seq.{length-sets, drop-drop}
use Rattle.laws.specs.Truth.{and_left, and_right}
use Rattle.model.specs.{declared.Event.Event, declared.Run.Run, Trace.decoded}
use Rattle.whole_runs.specs.{Outcomes.Report, Calls.Answered, WholeRuns.Reachable}
use Rattle.whole_runs.specs.Listing.{line_text, call_of, perform, most_records, goes_on_of, records, goes_on_after_all, state_after_records}
use Rattle.whole_runs.proofs.{Blocks.next_line, Blocks.next_goes_on, Blocks.next_state, Sizes.Small, Sizes.record_small, WholeRuns.reachable_call}
use Rattle.trace.specs.{Answers.record_at, Answers.event_in, reader.Reading.record_after_of}
use Rattle.listing.specs.declared.Summary.{Summary}
use Rattle.listing.specs.{Lines.longest_line, Lines.number_said, Lines.reply_of, Printed.Printed, Summarised.report_in, Summarised.Performs}
use Rattle.listing.proofs.{Summarised.says_line, Texts.then, Texts.nothing}
use Rattle.in_place.specs.Left.{Leaves}
use Rattle.library_replay.specs.Taken.{may_take, taken_of, BlockOutcome, outcome_of, block_outcome, is_left_of, record_in_of, takes_next_of}

-- The first record of a block: it is taken, and how many after it, or none is.
pub taken_one : (all : Bool) (done : ℕ) (s : Run) (l : List ℕ) (room : ℕ) → 4 ≤ length l → may_take done room ≡ true
    → taken_of all done s l room ≡ suc (pick (goes_on_of all (perform s (decoded (take 4 l))).reply.report.refused)
    (taken_of all (done + 1) (perform s (decoded (take 4 l))).run (drop 4 l) (room - length (line_text (done + 1) (perform s (decoded (take 4 l))).reply))) 0)
unfolding taken_of
taken_one all done s [] room h may = absurd (omega arith)
taken_one all done s (a ∷ []) room h may = absurd (omega arith)
taken_one all done s (a ∷ b ∷ []) room h may = absurd (omega arith)
taken_one all done s (a ∷ b ∷ c ∷ []) room h may = absurd (omega arith)
taken_one all done s (a ∷ b ∷ c ∷ d ∷ l) room h may = rw may

none_left : (all : Bool) (done : ℕ) (s : Run) (l : List ℕ) (room : ℕ) → length l < 4 → taken_of all done s l room ≡ 0
unfolding taken_of
none_left all done s [] room h = refl
none_left all done s (a ∷ []) room h = refl
none_left all done s (a ∷ b ∷ []) room h = refl
none_left all done s (a ∷ b ∷ c ∷ []) room h = refl
none_left all done s (a ∷ b ∷ c ∷ d ∷ l) room h = absurd (omega arith)

may_not : (all : Bool) (done : ℕ) (s : Run) (l : List ℕ) (room : ℕ) → may_take done room ≡ false → taken_of all done s l room ≡ 0
unfolding taken_of
may_not all done s [] room h = refl
may_not all done s (a ∷ []) room h = refl
may_not all done s (a ∷ b ∷ []) room h = refl
may_not all done s (a ∷ b ∷ c ∷ []) room h = refl
may_not all done s (a ∷ b ∷ c ∷ d ∷ l) room h = rw h

-- The records taken so far: the state after them, their lines, whether the replay goes on, and how many more are taken then.
pub record SoFar (all : Bool) (done : ℕ) (s : Run) (block out : List ℕ) (run : Run) (taken : ℕ) (now-out : List ℕ) (written : ℕ) (going : Bool) : Type 0 where
  pub within : 4 * taken ≤ length block
  pub fits : written ≤ length out
  pub state : run ≡ state_after_records s (take (4 * taken) block)
  pub lines : Printed out 0 (records all done s (take (4 * taken) block)) now-out written
  pub goes_on : going ≡ goes_on_after_all all s (take (4 * taken) block)
  pub rest : taken_of all done s block (length out) ≡ taken + pick going (taken_of all (done + taken) run (drop (4 * taken) block) (length out - written)) 0

pub none_taken : (all : Bool) (done : ℕ) (s : Run) (block out : List ℕ) → SoFar all done s block out s 0 out 0 true
unfolding records goes_on_after_all state_after_records
none_taken all done s block out = record {
  within = omega arith;
  fits = omega arith;
  state = refl;
  lines = nothing out 0;
  goes_on = refl;
  rest = let more : done + 0 ≡ done = omega arith in let all_left : length out - 0 ≡ length out = omega arith in rw (more, all_left) (omega arith);
}

-- What holds where one more record is taken, and where none is.
pub record Takes (going : Bool) (done : ℕ) (block : List ℕ) (taken room : ℕ) : Type 0 where
  pub still : going ≡ true
  pub may : may_take (done + taken) room ≡ true
  pub few : done + taken < most_records
  pub space : longest_line ≤ room
  pub left : 4 * taken + 4 ≤ length block

module _ (going : Bool) (done : ℕ) (block : List ℕ) (taken room : ℕ) where
  pub next_taken : takes_next_of going done block taken room ≡ true → Takes going done block taken room
  unfolding takes_next_of may_take is_left_of
  next_taken e =
      let a = ltb (done + taken) most_records in
      let b = leb longest_line room in
      let c = leb (4 * taken + 4) (length block) in
      let first = and_left (going && (a && b)) c e in
      let may = and_right going (a && b) first in
      record {
        still = and_left going (a && b) first;
        may = may;
        few = ltb-true (done + taken) most_records (and_left a b may);
        space = leb-true longest_line room (and_right a b may);
        left = leb-true (4 * taken + 4) (length block) (and_right (going && (a && b)) c e);
      }

  -- where none is, no more are taken
  none_more : (all : Bool) (s : Run) → takes_next_of going done block taken room ≡ false → pick going (taken_of all (done + taken) s (drop (4 * taken) block) room) 0 ≡ 0
  unfolding takes_next_of is_left_of
  none_more all s e = by_bool going
      (λ g. rw g (by_bool (may_take (done + taken) room)
      (λ m. none_left all (done + taken) s (drop (4 * taken) block) room (omega (arith, leb-false (4 * taken + 4) (length block) (rw (g, m) at e), length-drop (4 * taken) block)))
      (λ m. may_not all (done + taken) s (drop (4 * taken) block) room m)))
      (λ g. rw g)

-- The part that is handed on is the record, where one is left.
pub record_read : (block : List ℕ) (taken : ℕ) → 4 * taken + 4 ≤ length block → event_in (record_in_of block taken) ≡ decoded (take 4 (drop (4 * taken) block))
unfolding record_in_of record_at event_in
record_read block taken h =
    let part = take 4 (drop (4 * taken) block) in
    let long : length part ≡ 4 = length-take-le 4 (drop (4 * taken) block) (omega (arith, length-drop (4 * taken) block)) in
    rw (le-leb (4 * taken + 4) (length block) h, eq-eqb (length part) 4 long)

-- A block that stands after a first byte is a trace: the part is then the one that a reader of the trace hands on.
pub same_part : (trace : List ℕ) (taken : ℕ) → record_in_of (drop 1 trace) taken ≡ record_after_of trace taken
unfolding record_in_of record_after_of record_at
same_part trace taken =
    let long = length-drop 1 trace in
    let part : take 4 (drop (4 * taken) (drop 1 trace)) ≡ take 4 (drop (1 + 4 * taken) trace) = ap (take 4) (drop-drop (4 * taken) 1 trace) in
    let left : leb (4 * taken + 4) (length (drop 1 trace)) ≡ leb (1 + 4 * taken + 4) (length trace)
    = by_bool (leb (1 + 4 * taken + 4) (length trace))
    (λ e. le-leb (4 * taken + 4) (length (drop 1 trace)) (omega (arith, long, leb-true (1 + 4 * taken + 4) (length trace) e)) ∙ sym e)
    (λ e. lt-leb (4 * taken + 4) (length (drop 1 trace)) (omega (arith, long, leb-false (1 + 4 * taken + 4) (length trace) e)) ∙ sym e) in
    rw (left, part)

module _ (all : Bool) (done : ℕ) (s : Run) (block out : List ℕ) (run : Run) (taken : ℕ) (now-out : List ℕ) (written : ℕ) (going : Bool)
    (so_far : SoFar all done s block out run taken now-out written going) where
  -- the buffer is as long as it was
  pub same_room : length now-out ≡ length out
  same_room = ap length so_far.lines.holds ∙ length-sets out 0 (records all done s (take (4 * taken) block))

  -- one more is taken, as the buffer stands now
  pub one_next : {more : Bool} → more ≡ takes_next_of going done block taken (length now-out - written) → more ≡ true → Takes going done block taken (length out - written)
  one_next e yes-more = next_taken going done block taken (length out - written) (ap (λ (k : ℕ). takes_next_of going done block taken (k - written)) (sym same_room) ∙ sym e ∙ yes-more)

  pub none_next : {more : Bool} → more ≡ takes_next_of going done block taken (length now-out - written) → more ≡ false → takes_next_of going done block taken (length out - written) ≡ false
  none_next e no_more = ap (λ (k : ℕ). takes_next_of going done block taken (k - written)) (sym same_room) ∙ sym e ∙ no_more

  -- where no more is taken, these are all
  pub whole : takes_next_of going done block taken (length out - written) ≡ false → taken ≡ taken_of all done s block (length out)
  whole e = omega (arith, so_far.rest, none_more going done block taken (length out - written) all run e)

  module _ (t : Takes going done block taken (length out - written)) where
    four_more : 4 * (taken + 1) ≡ 4 * taken + 4
    four_more = omega arith

    still_going : goes_on_after_all all s (take (4 * taken) block) ≡ true
    still_going = sym so_far.goes_on ∙ t.still

    abbrev next : List ℕ
    next = take 4 (drop (4 * taken) block)

    abbrev o : Answered
    o = perform run (decoded (take 4 (drop (4 * taken) block)))

    -- how many are taken after it
    rest_then : (next-written : ℕ) → next-written ≡ written + length (line_text (done + taken + 1) o.reply) → (next-going : Bool) → next-going ≡ goes_on_of all o.reply.report.refused
        → taken_of all done s block (length out) ≡ taken + 1 + pick next-going (taken_of all (done + (taken + 1)) o.run (drop (4 * (taken + 1)) block) (length out - next-written)) 0
    rest_then next-written e next-going g =
        let long : 4 ≤ length (drop (4 * taken) block) = omega (arith, t.left, length-drop (4 * taken) block) in
        let one = taken_one all (done + taken) run (drop (4 * taken) block) (length out - written) long t.may in
        let rest_after : drop 4 (drop (4 * taken) block) ≡ drop (4 * (taken + 1)) block = drop-drop 4 (4 * taken) block ∙ ap (λ (k : ℕ). drop k block) (let z : 4 * taken + 4 ≡ 4 * (taken + 1) = omega arith in z) in
        let left : length out - written - length (line_text (done + taken + 1) o.reply) ≡ length out - next-written = omega (arith, e) in
        let count : done + taken + 1 ≡ done + (taken + 1) = omega arith in
        so_far.rest ∙ ap (λ (b : Bool). taken + pick b (taken_of all (done + taken) run (drop (4 * taken) block) (length out - written)) 0) t.still
        ∙ ap (λ (k : ℕ). taken + k) one
        ∙ rw (g, rest_after, left, ← count) (omega arith)

    pub one_taken : (e : Option Event) → e ≡ decoded next → (next-run : Run) (summary : Summary) (deleted : List ℕ) → Performs run e next-run summary deleted
        → (next_out : List ℕ) (next-written : ℕ) → Printed now-out written (line_text (done + (taken + 1)) (reply_of summary deleted)) next_out next-written → next-written ≤ length now-out
        → (next-going : Bool) → next-going ≡ goes_on_of all (number_said summary.refused)
        → SoFar all done s block out next-run (taken + 1) next_out next-written next-going
    unfolding report_in
    one_taken e read next-run summary deleted does next_out next-written printed fits next-going goes =
        let line : line_text (done + taken + 1) (reply_of summary deleted) ≡ line_text (done + taken + 1) o.reply
        = says_line summary deleted (perform run e).reply does.says (done + taken + 1) ∙ ap (λ (x : Option Event). line_text (done + taken + 1) (perform run x).reply) read in
        let after : next-run ≡ o.run = does.state ∙ ap (λ (x : Option Event). (perform run x).run) read in
        let on : next-going ≡ goes_on_of all o.reply.report.refused
        = goes ∙ ap (λ (r : Report). goes_on_of all r.refused) does.says.report ∙ ap (λ (x : Option Event). goes_on_of all (perform run x).reply.report.refused) read in
        let count : done + (taken + 1) ≡ done + taken + 1 = omega arith in
        let put = rw (count, line) at printed in
        record {
          within = omega (arith, t.left);
          fits = omega (arith, fits, same_room);
          state = after ∙ rw (so_far.state, four_more) (sym (next_state taken done s block t.left));
          lines = rw (four_more, next_line taken done s block t.left all t.few still_going) (then so_far.lines (rw so_far.state at put));
          goes_on = on ∙ rw (so_far.state, four_more) (sym (next_goes_on taken done s block t.left all still_going));
          rest = rw after (rest_then next-written put.next_place next-going on);
        }

-- All that were taken are the outcome.
pub record Whole (all : Bool) (done : ℕ) (s : Run) (block out : List ℕ) (run : Run) (taken : ℕ) (now-out : List ℕ) (written : ℕ) (going : Bool) : Type 0 where
  pub many : taken ≡ (block_outcome all done s block (length out)).taken
  pub long : written ≡ length (block_outcome all done s block (length out)).lines
  pub goes_on : going ≡ (block_outcome all done s block (length out)).going
  pub lines : now-out ≡ sets out 0 (block_outcome all done s block (length out)).lines
  pub state : run ≡ (block_outcome all done s block (length out)).run

pub all_taken : (all : Bool) (done : ℕ) (s : Run) (block out : List ℕ) (run : Run) (taken : ℕ) (now-out : List ℕ) (written : ℕ) (going : Bool)
    → SoFar all done s block out run taken now-out written going → takes_next_of going done block taken (length out - written) ≡ false
    → Whole all done s block out run taken now-out written going
unfolding block_outcome outcome_of
all_taken all done s block out run taken now-out written going so_far e =
    let many = whole all done s block out run taken now-out written going so_far e in
    let same : outcome_of all done s block taken ≡ outcome_of all done s block (taken_of all done s block (length out)) = ap (outcome_of all done s block) many in
    record {
      many = many;
      long = let as_long = ap (λ (o : BlockOutcome). length o.lines) same in omega (arith, so_far.lines.next_place, as_long);
      goes_on = so_far.goes_on ∙ ap (λ (o : BlockOutcome). o.going) same;
      lines = so_far.lines.holds ∙ ap (λ (o : BlockOutcome). sets out 0 o.lines) same;
      state = so_far.state ∙ ap (λ (o : BlockOutcome). o.run) same;
    }

-- What is said of a record is small.
pub summary_small : (s : Run) (e : Option Event) (run : Run) (summary : Summary) (deleted : List ℕ) → Performs s e run summary deleted → Small (report_in summary) × (summary.deletions ≤ 256)
unfolding report_in
summary_small s e run summary deleted h =
    let small : Small (report_in summary) = rw h.says.report (record_small s e) in
    (small, small.deletions)

-- Calls from a start lead to the state after a record, and after the records of a block.
pub reachable_record : (s : Run) → Reachable s → (e : Option Event) → Reachable (perform s e).run
unfolding perform
reachable_record s v None = v
reachable_record s v (Some e) = reachable_call s v (call_of e)

pub reachable_records : (s : Run) → Reachable s → (l : List ℕ) → Reachable (state_after_records s l)
unfolding state_after_records
reachable_records s v [] = v
reachable_records s v (a ∷ []) = v
reachable_records s v (a ∷ b ∷ []) = v
reachable_records s v (a ∷ b ∷ c ∷ []) = v
reachable_records s v (a ∷ b ∷ c ∷ d ∷ l) =
    reachable_records (perform s (decoded (a ∷ b ∷ c ∷ d ∷ []))).run (reachable_record s v (decoded (a ∷ b ∷ c ∷ d ∷ []))) l

pub block_reachable : (s : Run) → Reachable s → (all : Bool) (done : ℕ) (block : List ℕ) (room : ℕ) (run : Run) → run ≡ (block_outcome all done s block room).run → Reachable run
unfolding block_outcome outcome_of
block_reachable s v all done block room run e = rw e (reachable_records s v (take (4 * taken_of all done s block room) block))

pub performs_reachable : (s : Run) (e : Option Event) (run : Run) (summary : Summary) (deleted : List ℕ) → Performs s e run summary deleted → Reachable s → Reachable run
performs_reachable s e run summary deleted h v = rw h.state (reachable_record s v e)

-- Words that two records one after the other leave.
pub leaves_then : (u v w : List ℕ) → Leaves u v → Leaves v w → Leaves u w
leaves_then u v w a b = record { size = b.size ∙ a.size; clean = λ c. b.clean (a.clean c) }
