-- Document 02, Note 9: a recorder. "A writer takes a call, does it, and appends the record to a lent buffer whose first byte is the count".
-- Assumes nothing.
use Rattle.std.specs.Prelude.{◌≡◌, ◌∷◌, ◌++◌, ◌⊎◌, ◌+◌, ◌-◌, ◌*◌, ◌≤◌, ◌<◌, Err, Ok}
use Rattle.laws.specs.Basics.{Bool, true, false, List, [], map, Option, None, Some, ℕ, eqb, ltb, length, get_or, take, drop, sets, pick}
use Rattle.laws.specs.Tests.{every}
use Prim.{tt}
use Rattle.model.specs.Shapes.{CheckpointAnswer, DeliverAnswer, LineAnswer, LoseAnswer, RecoverAnswer, SendAnswer, StartAnswer}
use Rattle.model.specs.declared.{Named.Named, Run.Run, Event.Event, Refusal.Refusal, Refusal.TheVariants.BufferTooShort}
use Rattle.model.specs.declared.Event.TheVariants.{Checkpoint, Send, Deliver, Lose, Recover}
use Rattle.model.specs.{Words.blank, Steps.start_state}
use Rattle.model.specs.Refusals.{start_refusal, checkpoint_refusal, send_refusal, deliver_refusal, lose_refusal, recover_refusal}
use Rattle.whole_runs.specs.Outcomes.{Outcome, Report, judged, start_outcome, checkpoint_outcome, checkpoint_report, send_outcome, send_report, deliver_outcome, deliver_report, lose_outcome, lose_report, line_outcome, line_report, recover_outcome, recover_report}
use Rattle.whole_runs.specs.{Earliest.earliest_outcome, Listing.most_records, Listing.state_after_records, Listing.listing}
use Rattle.whole_runs.specs.Calls.{Call, checkpoint, send, deliver, lose, recover, line, earliest, Reply, answered}
use Rattle.theory_recording.specs.Replay.{record_bytes, records_of, EventReply, replies_of, replayed_state, none_refused, lines_of}

-- What a call through the writer leaves behind: the call's outcome, the buffer, and the place that the next byte goes to.
pub record Recorded (A : Type 0) : Type 0 where
  pub outcome : Outcome A
  pub buffer : List ℕ
  pub place : ℕ

-- No byte is written.
unfoldable pub unwritten : {A : Type 0} → Outcome A → List ℕ → ℕ → Recorded A
unwritten outcome buffer place = record { outcome = outcome; buffer = buffer; place = place }

-- "appends the record": the bytes go to the place, the next place is after them.
unfoldable pub appended : {A : Type 0} → Outcome A → List ℕ → List ℕ → ℕ → Recorded A
appended outcome bytes buffer place = record { outcome = outcome; buffer = sets buffer place bytes; place = place + length bytes }

-- "A refused call writes no byte". "21, after all numbers of the call itself, for fewer bytes left in the buffer than it would write": a place past
-- the end of the buffer leaves none. `own` is the call's own refusal, `outcome` what the call leaves behind, `short` what a refusal with 21 leaves.
unfoldable pub recording : {A : Type 0} → Option Refusal → Outcome A → Outcome A → List ℕ → List ℕ → ℕ → Recorded A
recording own outcome short bytes buffer place = judged own
    (λ r. unwritten outcome buffer place)
    (pick (ltb (length buffer - place) (length bytes)) (unwritten short buffer place) (appended outcome bytes buffer place))

-- "whose first byte is the count; the start writes that byte". A refused start leaves a state of zeros and the place 0.
unfoldable pub recorded_start : ℕ → List ℕ → List ℕ → Recorded StartAnswer
recorded_start n block_counts buffer = recording (start_refusal n block_counts) (start_outcome n block_counts)
    (record { run = blank 0; answer = Err BufferTooShort; rose = 0; deleted = []; line = [] })
    (n ∷ []) buffer 0

unfoldable pub recorded_checkpoint : Run → ℕ → List ℕ → List ℕ → ℕ → Recorded CheckpointAnswer
recorded_checkpoint s i deleted = recording (checkpoint_refusal s i deleted) (checkpoint_outcome s i deleted)
    (record { run = s; answer = Err BufferTooShort; rose = 0; deleted = deleted; line = [] })
    (record_bytes (Checkpoint i))

unfoldable pub recorded_send : Run → ℕ → ℕ → List ℕ → ℕ → Recorded SendAnswer
recorded_send s i j = recording (send_refusal s i j) (send_outcome s i j)
    (record { run = s; answer = Err BufferTooShort; rose = 0; deleted = []; line = [] })
    (record_bytes (Send i j))

unfoldable pub recorded_deliver : Run → ℕ → List ℕ → List ℕ → ℕ → Recorded DeliverAnswer
recorded_deliver s m deleted = recording (deliver_refusal s m deleted) (deliver_outcome s m deleted)
    (record { run = s; answer = Err BufferTooShort; rose = 0; deleted = deleted; line = [] })
    (record_bytes (Deliver m))

unfoldable pub recorded_lose : Run → ℕ → List ℕ → ℕ → Recorded LoseAnswer
recorded_lose s m = recording (lose_refusal s m) (lose_outcome s m)
    (record { run = s; answer = Err BufferTooShort; rose = 0; deleted = []; line = [] })
    (record_bytes (Lose m))

unfoldable pub recorded_recover : Run → ℕ → List ℕ → List ℕ → List ℕ → ℕ → Recorded RecoverAnswer
recorded_recover s F deleted lent = recording (recover_refusal s F deleted lent) (recover_outcome s F deleted lent)
    (record { run = s; answer = Err BufferTooShort; rose = 0; deleted = deleted; line = lent })
    (record_bytes (Recover F))

-- "a line request, Note 8's too, writes none"
unfoldable pub recorded_line : Run → ℕ → List ℕ → List ℕ → ℕ → Recorded LineAnswer
recorded_line s F lent = unwritten (line_outcome s F lent)

unfoldable pub recorded_earliest : Run → List Named → List ℕ → List ℕ → ℕ → Recorded LineAnswer
recorded_earliest s l lent = unwritten (earliest_outcome s l lent)

-- The state, the buffer and the place: what a call through the writer is handed, and what it leaves to the next.
pub record Tape : Type 0 where
  pub run : Run
  pub buffer : List ℕ
  pub place : ℕ

pub record Taped : Type 0 where
  pub tape : Tape
  pub reply : Reply

unfoldable pub taped : {A : Type 0} → (A → Report) → Recorded A → Taped
taped report r = record {
  tape = record { run = r.outcome.run; buffer = r.buffer; place = r.place };
  reply = (answered report r.outcome).reply;
}

-- A call through the writer, by the very definitions that the writer's contracts cite.
unfoldable pub recorded : Tape → Call → Taped
recorded t (checkpoint i deleted) = taped checkpoint_report (recorded_checkpoint t.run i deleted t.buffer t.place)
recorded t (send i j) = taped send_report (recorded_send t.run i j t.buffer t.place)
recorded t (deliver m deleted) = taped deliver_report (recorded_deliver t.run m deleted t.buffer t.place)
recorded t (lose m) = taped lose_report (recorded_lose t.run m t.buffer t.place)
recorded t (recover F deleted lent) = taped recover_report (recorded_recover t.run F deleted lent t.buffer t.place)
recorded t (line F lent) = taped line_report (recorded_line t.run F lent t.buffer t.place)
recorded t (earliest l lent) = taped line_report (recorded_earliest t.run l lent t.buffer t.place)

-- "Where every call of a run, the start first, goes through the writer, each with the state, buffer and place the one before left"
unfoldable pub begun : ℕ → List ℕ → List ℕ → Tape
begun n block_counts buffer =
    record { run = (recorded_start n block_counts buffer).outcome.run; buffer = (recorded_start n block_counts buffer).buffer; place = (recorded_start n block_counts buffer).place }

unfoldable pub tape_after : Tape → List Call → Tape
tape_after t [] = t
tape_after t (c ∷ l) = tape_after (recorded t c).tape l

-- The event whose record a call appends; a line request appends none.
unfoldable pub event_of_call : Call → Option Event
event_of_call (checkpoint i deleted) = Some (Checkpoint i)
event_of_call (send i j) = Some (Send i j)
event_of_call (deliver m deleted) = Some (Deliver m)
event_of_call (lose m) = Some (Lose m)
event_of_call (recover F deleted lent) = Some (Recover F)
event_of_call (line F lent) = None
event_of_call (earliest l lent) = None

-- The accepted calls of a list with their replies, in their order. By the replies alone, not by the buffer.
unfoldable pub entry_of : Option Event → Reply → List EventReply
entry_of None r = []
entry_of (Some e) r = record { event = e; reply = r } ∷ []

unfoldable pub entered : Tape → Call → List EventReply
entered t c = pick (eqb (recorded t c).reply.report.refused 0) (entry_of (event_of_call c) (recorded t c).reply) []

unfoldable pub entries : Tape → List Call → List EventReply
entries t [] = []
entries t (c ∷ l) = entered t c ++ entries (recorded t c).tape l

-- "A refused call writes no byte, and a line request, Note 8's too, writes none": the state, the buffer and the place are as they were. Of any state, buffer and place.
unfoldable pub WritesAcceptedAlone : Type 0
WritesAcceptedAlone = (t : Tape) (c : Call) → (eqb (recorded t c).reply.report.refused 0 ≡ false) ⊎ (event_of_call c ≡ None) → (recorded t c).tape ≡ t

-- What a reply hands out: its report, the entries that rose, the pairs of its deletions, and the n indexes of its line. The rest of the lent lists is
-- as it was lent.
unfoldable pub handed : ℕ → Reply → Reply
handed n r = record { report = r.report; rose = r.rose; deleted = take (2 * r.report.deletions) r.deleted; line = take n r.line }

-- The records of what was entered, one after the other.
abbrev pub trace_of : List EventReply → List ℕ
trace_of l = records_of (map (λ x. x.event) l)

-- "with block counts 1": of the n processes. Note 5: counts "at n and above are neither judged nor stored".
unfoldable pub OneEach : ℕ → List ℕ → Type 0
OneEach n block_counts = (p : ℕ) → p < n → get_or block_counts p 0 ≡ 1

-- "a replay of what was recorded .. must reach the same state, message numbers, deletions and all".
pub record ReplaysTheSame (n : ℕ) (block_counts buffer : List ℕ) (t : Tape) (l : List EventReply) : Type 0 where
  -- the buffer: n, the records of the accepted calls, and past the place what it was lent with
  pub written : t.buffer ≡ (n ∷ trace_of l) ++ drop t.place buffer
  pub size : length (trace_of l) ≡ 4 * length l
  pub are_bytes : every (λ b. ltb b 256) (n ∷ trace_of l) ≡ true
  pub place : t.place ≡ 1 + 4 * length l
  pub inside : t.place ≤ length buffer
  -- a replay from a start with the same block counts ends in the same state
  pub same : state_after_records (start_state n block_counts) (trace_of l) ≡ t.run
  -- and each of its records hands out what the recorded call handed out
  pub replies : map (handed n) (replies_of (start_state n block_counts) (trace_of l)) ≡ map (λ x. handed n x.reply) l
  pub accepted : none_refused (map (λ x. x.reply) l) ≡ true
  -- "with block counts 1, up to 1,000,000,000 records": the replay program reaches the same state with what stands in the buffer
  pub state : OneEach n block_counts → length l ≤ most_records → replayed_state (take t.place t.buffer) ≡ t.run
  -- and prints the lines of the recorded replies, with or without `all`
  pub printed : OneEach n block_counts → length l ≤ most_records → (all : Bool) → listing all (take t.place t.buffer) ≡ lines_of 0 (map (λ x. x.reply) l)

-- Note 9: for every accepted start through the writer, with any block counts and any buffer, and every list of calls after it.
unfoldable pub RecordingReplays : Type 0
RecordingReplays = (n : ℕ) (block_counts buffer : List ℕ) → (recorded_start n block_counts buffer).outcome.answer ≡ Ok tt → (calls : List Call)
    → ReplaysTheSame n block_counts buffer (tape_after (begun n block_counts buffer) calls) (entries (begun n block_counts buffer) calls)
