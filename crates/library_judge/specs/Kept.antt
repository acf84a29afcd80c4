-- The invariant of the reading: what is read holds of the pattern read so far and of its trail; and what a record does to it.
-- Assumes nothing.
use Rattle.std.specs.Prelude.{◌≡◌, ◌+◌, ◌*◌, ◌≤◌, ◌<◌, Result, Ok, Err}
use Rattle.laws.specs.Basics.{true, List, Option, None, Some, ℕ, suc, length, drop}
use Rattle.model.specs.declared.{Event.Event, Refusal.Refusal}
use Rattle.model.specs.Words.{entry, most_processes, most_under_way}
use Rattle.histories.specs.History.{sent, checkpoints}
use Rattle.theory_patterns.specs.Patterns.{Pattern, empty, count_under_way, record_refusal, taken, read_from, reading, refused, whole, most_judged}
use Rattle.theory_patterns.specs.{Paths.event_at, Verdicts.count_of}
use Rattle.theory_patterns.proofs.Trail.{Trail, Right}
use Rattle.library_judge.specs.{decision.Rows.owner_at, decision.Rows.vector_at, decision.Rows.carried_at, decision.Rows.mark_at, decision.Rows.to_at, decision.Rows.most_rows}
use Rattle.library_judge.specs.decision.Represents.{interval_of, Represents}
use Rattle.library_judge.specs.{declared.pattern.Sent.Sent, declared.reading.Reading.Reading, Readings.live_row, Readings.is_under_way}

-- The message in place y is under way: it was sent, is not received, and carries what its send did.
pub record Waits (n : ℕ) (t : Pattern) (tr : Trail) (messages : List Sent) (y : ℕ) : Type 0 where
  pub mark : mark_at messages y ≡ suc (t.receiver (suc y))
  pub receiver : t.receiver (suc y) < n
  pub not_got : to_at messages y ≡ 0
  pub carried : (f : ℕ) → f < most_processes → (entry (carried_at messages y) f).0 ≡ tr.carried (suc y) f
  pub was_sent : (p : ℕ) × (i : ℕ) × (event_at (tr.lists p) i ≡ Some (sent (suc y)))

pub record Kept (n read : ℕ) (t : Pattern) (tr : Trail) (R : Reading) : Type 0 where
  pub right : Right tr
  pub lists : t.lists ≡ tr.lists
  pub sends : t.sends ≡ tr.last
  pub last : R.last ≡ tr.last
  pub represented : Represents n tr.lists tr.vector R.rows R.last R.states R.messages
  pub wide : (r : ℕ) → r < R.rows → length (vector_at R.states r) ≡ most_processes
  -- the live rows
  pub row_there : (p : ℕ) → p < n → live_row R p < R.rows
  pub row_own : (p : ℕ) → p < n → owner_at R.states (live_row R p) ≡ p
  pub row_live : (p : ℕ) → p < n → interval_of R.states (live_row R p) ≡ checkpoints (tr.lists p)
  -- no more rows and messages than records
  pub few_rows : R.rows ≤ n + read
  pub few_messages : R.last ≤ read
  pub room : length R.states ≡ most_rows
  pub sent_room : length R.messages ≡ most_judged
  pub places : length R.current ≡ most_processes
  -- the messages under way
  pub counted : R.underway ≡ count_under_way t
  pub most : R.underway ≤ most_under_way
  pub marked : (m : ℕ) → t.underway m ≡ is_under_way R.messages R.last m
  pub waits : (y : ℕ) → t.underway (suc y) ≡ true → Waits n t tr R.messages y

-- A record may be read: fewer than 4,096 were.
abbrev pub Ready : ℕ → Reading → Type 0
Ready n R = (read : ℕ) × (t : Pattern) × (tr : Trail) × (read < most_judged) × Kept n read t tr R

-- What a record leaves after the pattern t: the refusal that it has there, or the pattern with it.
unfoldable pub AfterRecord : ℕ → ℕ → Pattern → Option Event → Result (Unit {0}) Refusal → Reading → Type 0
AfterRecord n read t e (Err why) R = record_refusal n t e ≡ Some why
AfterRecord n read t e (Ok u) R = (record_refusal n t e ≡ None) × ((tr : Trail) × Kept n (suc read) (taken t e) tr R)

-- The same, whatever pattern was read.
unfoldable pub Reads : ℕ → Reading → Option Event → Result (Unit {0}) Refusal → Reading → Type 0
Reads n R e answer R' = (read : ℕ) (t : Pattern) (tr : Trail) → read < most_judged → Kept n read t tr R → AfterRecord n read t e answer R'

-- After `read` records of a trace none is refused, and their pattern is read.
pub record Reached (n : ℕ) (trace : List ℕ) (read : ℕ) (R : Reading) : Type 0 where
  pub pattern : Pattern
  pub trail : Trail
  pub kept : Kept n read pattern trail R
  pub inside : 1 + 4 * read ≤ length trace
  pub rest : read_from n empty (drop 1 trace) ≡ read_from n pattern (drop (1 + 4 * read) trace)

-- What the reading of all records and of the left-over bytes comes to.
unfoldable pub ReadsAll : ℕ → List ℕ → Result (Unit {0}) Refusal → Reading → Type 0
ReadsAll n trace (Err why) R = read_from n empty (drop 1 trace) ≡ refused why
ReadsAll n trace (Ok u) R = (read : ℕ) × (t : Pattern) × (tr : Trail) × Kept n read t tr R × (read_from n empty (drop 1 trace) ≡ whole t)

-- What is judged before any record: why the trace is refused, or how many processes it has, and that its records are read.
unfoldable pub Counts : List ℕ → Result ℕ Refusal → Type 0
Counts trace (Err why) = reading trace ≡ refused why
Counts trace (Ok n) = (n ≡ count_of trace) × (1 ≤ length trace) × (n ≤ most_processes) × (length trace ≤ 4 * most_judged + 4) × (reading trace ≡ read_from n empty (drop 1 trace))
