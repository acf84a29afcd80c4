-- Document 02, Note 12, "Two halves of one run": the merge of two halves.
-- Assumes nothing.
use Rattle.std.specs.Prelude.{◌≡◌, ◌&&◌, ◌||◌, ◌∷◌, ◌++◌, ◌+◌, ◌*◌, ◌/◌, ◌%◌, ◌^◌, ◌≤◌, ◌<◌, Err, Ok}
use Rattle.laws.specs.Basics.{Bool, true, false, not, List, [], map, Option, None, Some, ℕ, zero, suc, eqb, ltb, leb, length, pick}
use Rattle.model.specs.Shapes.{MergeAnswer}
use Rattle.model.specs.declared.{Run.Run, Fields.Fields, Refusal.Refusal}
use Rattle.model.specs.declared.Refusal.TheVariants.{CountOutsideRange, ListTooShort, NoSuchProcess, SenderIsReceiver, NoSuchFailedProcess, NoFirstByte, LeftOverBytes, MalformedRecord, TooManyRecords, HalvesMismatch, NeitherReady}
use Rattle.model.specs.{Words.most_processes, Words.in_set, Refusals.first_of, Trace.fields, Trace.if_zero_of, Trace.fields_of, Trace.word_of_def, Trace.bytes_of_def}
use Rattle.whole_runs.specs.{Outcomes.judged, Outcomes.written, Outcomes.Report, Outcomes.refusing, Outcomes.accepting, Calls.state_after}
use Rattle.whole_runs.specs.Listing.{state_after_records}
use Rattle.theory_merges.specs.Halves.{HalfEvent, checkpoint_at, send_to, deliver_of, lose_of, message_number, receiver_of, plain_event, calls_from, newest_first, KeepsBoth, sends_first, happens_at, SplitBy}

-- "the argument names a message by 4 bits of sender, then 21 bits of that sender's running count": 2,097,152 is 2 to the power 21.
abbrev pub argument_sender : Fields → ℕ
argument_sender r = r.argument / 2097152

abbrev pub argument_count : Fields → ℕ
argument_count r = r.argument % 2097152

-- "In a half, kinds 0 to 3 occur, and in deliver and lose the process is zero". None: refusal 14, "(kind 4 too)".
unfoldable pub half_event_of : Fields → Option HalfEvent
half_event_of r = pick (eqb r.kind 0) (if_zero_of r.argument (checkpoint_at r.process))
    (pick (eqb r.kind 1) (Some (send_to r.process r.argument))
    (pick (eqb r.kind 2) (if_zero_of r.process (deliver_of (argument_sender r) (argument_count r)))
    (pick (eqb r.kind 3) (if_zero_of r.process (lose_of (argument_sender r) (argument_count r)))
    None)))

-- "A delivery or loss is ready once its message was sent, any other record always." By kind and argument alone: whether the record is well-formed is
-- judged as it is taken.
unfoldable pub is_ready : List HalfEvent → Fields → Bool
is_ready taken r = not (eqb r.kind 2 || eqb r.kind 3) || leb 1 (message_number taken (argument_sender r) (argument_count r))

-- The record that is taken next: whether it is of the first half, its fields, and what is left of both halves after it.
pub data Next : Type 0 where
  next_is : Bool → Fields → List Fields → List Fields → Next
  neither : Next

-- "The merge takes the next record from the first half if it is ready, otherwise from the second".
unfoldable pub next_of_second : List HalfEvent → List Fields → List Fields → Next
next_of_second taken first [] = neither
next_of_second taken first (y ∷ second) = pick (is_ready taken y) (next_is false y first second) neither

unfoldable pub next_record : List HalfEvent → List Fields → List Fields → Next
next_record taken [] second = next_of_second taken [] second
next_record taken (x ∷ first) second = pick (is_ready taken x) (next_is true x first second) (next_of_second taken (x ∷ first) second)

-- 4, "process not below n", and 5, "sender is receiver". A delivery or loss names a message that was taken, and so a sender below n.
unfoldable pub out_of_run : ℕ → HalfEvent → Bool
out_of_run n (checkpoint_at p) = leb n p
out_of_run n (send_to i j) = leb n i || leb n j
out_of_run n (deliver_of s c) = false
out_of_run n (lose_of s c) = false

unfoldable pub to_itself : HalfEvent → Bool
to_itself (checkpoint_at p) = false
to_itself (send_to i j) = eqb i j
to_itself (deliver_of s c) = false
to_itself (lose_of s c) = false

-- "a set says which processes belong to the first half": process p belongs to the half that is meant, the first or the second.
unfoldable pub in_half_of : ℕ → Bool → ℕ → Bool
in_half_of set true p = in_set set p
in_half_of set false p = not (in_set set p)

-- "As a record is taken, 14 .., 4 and 5 are judged." "23 .. right after 5 for a taken record of a process, or a delivery or loss for a receiver, outside
-- that half".
unfoldable pub record_refusal : ℕ → ℕ → Bool → List HalfEvent → HalfEvent → Option Refusal
record_refusal n set ofFirst taken x = first_of (
    record { holds = out_of_run n x; gives = NoSuchProcess }
    ∷ record { holds = to_itself x; gives = SenderIsReceiver }
    ∷ record { holds = not (in_half_of set ofFirst (happens_at (receiver_of taken) x)); gives = HalvesMismatch }
    ∷ [])

-- The records taken, newest first, or why the merge stopped.
pub data Taken : Type 0 where
  stopped : Refusal → Taken
  took : List HalfEvent → Taken

-- One record, and what follows it.
unfoldable pub on_record : ℕ → ℕ → List HalfEvent → Bool → (HalfEvent → Taken) → Option HalfEvent → Taken
on_record n set taken ofFirst next None = stopped MalformedRecord
on_record n set taken ofFirst next (Some x) = judged (record_refusal n set ofFirst taken x) stopped (next x)

-- "24 when records are left and neither half is ready."
unfoldable pub on_next : ℕ → ℕ → List HalfEvent → (HalfEvent → List Fields → List Fields → Taken) → Next → Taken
on_next n set taken next neither = stopped NeitherReady
on_next n set taken next (next_is ofFirst r first second) = on_record n set taken ofFirst (λ x. next x first second) (half_event_of r)

-- As many records as are left are taken after some.
unfoldable pub take_from : ℕ → ℕ → ℕ → List HalfEvent → List Fields → List Fields → Taken
take_from zero n set taken first second = took taken
take_from (suc k) n set taken first second = on_next n set taken (λ x a b. take_from k n set (x ∷ taken) a b) (next_record taken first second)

-- "The first byte is n. Then records": what a half has.
unfoldable pub count_of : List ℕ → ℕ
count_of [] = 0
count_of (n ∷ l) = n

unfoldable pub after_first_byte : List ℕ → List ℕ
after_first_byte [] = []
after_first_byte (n ∷ l) = l

unfoldable pub fields_in : List ℕ → List Fields
fields_in [] = []
fields_in (a ∷ []) = []
fields_in (a ∷ b ∷ []) = []
fields_in (a ∷ b ∷ c ∷ []) = []
fields_in (a ∷ b ∷ c ∷ d ∷ l) = fields (a ∷ b ∷ c ∷ d ∷ []) ∷ fields_in l

-- All records of both halves.
abbrev pub take_all : List ℕ → List ℕ → ℕ → Taken
take_all first second set = take_from (length (fields_in (after_first_byte first)) + length (fields_in (after_first_byte second))) (count_of first) set []
    (fields_in (after_first_byte first)) (fields_in (after_first_byte second))

-- 1, a count outside 1 to 16, of a half that has one.
unfoldable pub bad_count : List ℕ → Bool
bad_count [] = false
bad_count (n ∷ l) = not (leb 1 n && leb n most_processes)

-- 13: "one to three bytes left over".
abbrev pub left_over_of : List ℕ → Bool
left_over_of half = not (eqb (length (after_first_byte half) % 4) 0)

-- 17: "more than 4,096 records".
abbrev pub most_of_half : ℕ
most_of_half = 4096

abbrev pub too_many : List ℕ → Bool
too_many half = ltb most_of_half (length (after_first_byte half) / 4)

-- What is judged before any record. "Number 3 covers a result buffer shorter than both halves together, 7 the set (judged only after 1, 12 and 23 have
-- passed both halves), 13, and after it 17, each half". "23, right after 12, for unequal counts".
unfoldable pub merge_refusal : List ℕ → List ℕ → ℕ → List ℕ → Option Refusal
merge_refusal first second set buffer = first_of (
    record { holds = bad_count first || bad_count second; gives = CountOutsideRange }
    ∷ record { holds = ltb (length buffer) (length first + length second); gives = ListTooShort }
    ∷ record { holds = eqb (length first) 0 || eqb (length second) 0; gives = NoFirstByte }
    ∷ record { holds = not (eqb (count_of first) (count_of second)); gives = HalvesMismatch }
    ∷ record { holds = leb (2 ^ count_of first) set; gives = NoSuchFailedProcess }
    ∷ record { holds = left_over_of first || left_over_of second; gives = LeftOverBytes }
    ∷ record { holds = too_many first || too_many second; gives = TooManyRecords }
    ∷ [])

-- "The result is a plain trace with run-wide numbers": the bytes of the records taken, oldest first.
unfoldable pub plain_bytes : List HalfEvent → List ℕ
plain_bytes [] = []
plain_bytes (x ∷ taken) = plain_bytes taken ++ bytes_of_def (word_of_def (fields_of (plain_event taken x)))

-- What a merge leaves: its answer, and the whole result buffer.
pub record MergeOutcome : Type 0 where
  pub answer : MergeAnswer
  pub buffer : List ℕ

unfoldable pub finished : ℕ → List ℕ → Taken → MergeOutcome
finished n buffer (stopped r) = record { answer = Err r; buffer = buffer }
finished n buffer (took taken) = record { answer = Ok (1 + length (plain_bytes taken)); buffer = written buffer (n ∷ plain_bytes taken) }

-- "the rest of the buffer is unchanged"; with a refusal all of it is.
unfoldable pub merge_outcome : List ℕ → List ℕ → ℕ → List ℕ → MergeOutcome
merge_outcome first second set buffer = judged (merge_refusal first second set buffer)
    (λ r. record { answer = Err r; buffer = buffer })
    (finished (count_of first) buffer (take_all first second set))

-- The number and the value of each answer.
unfoldable pub merge_report : MergeAnswer → Report
merge_report (Err r) = refusing r
merge_report (Ok bytes) = accepting (Some bytes) 0

-- "it keeps both halves' orders": where a merge takes all records, both halves are well-formed, each record stands in the half of its process, and the
-- order in which they were taken keeps both halves and sends before delivering. So `OrdersAgree` speaks of it.
unfoldable pub MergeKeeps : Type 0
MergeKeeps = (n set : ℕ) (first second : List Fields) (taken : List HalfEvent) → take_from (length first + length second) n set [] first second ≡ took taken
    → (one other order : List HalfEvent) × (map half_event_of first ≡ map Some one) × (map half_event_of second ≡ map Some other)
    × KeepsBoth one other order × (sends_first [] order ≡ true) × SplitBy set one other × (taken ≡ newest_first [] order)

-- "The result is a plain trace": each record taken is four bytes of it, and replaying them is the run of the merged calls. An argument has 25 bits, so
-- the records are fewer than 2 to the power 25; a merge has 8,192 at most.
unfoldable pub MergeReplays : Type 0
MergeReplays = (n set : ℕ) (first second : List Fields) (order : List HalfEvent) → n ≤ most_processes → length first + length second < 33554432
    → take_from (length first + length second) n set [] first second ≡ took (newest_first [] order)
    → (length (plain_bytes (newest_first [] order)) ≡ 4 * length order)
    × ((s : Run) → state_after_records s (plain_bytes (newest_first [] order)) ≡ state_after s (calls_from [] order))

-- All of it for one merge that is not refused: the events of both halves, their order, where each stands, how many bytes are written and which, and what
-- a replay of them is. No limit of a run is judged: a replay of the result may meet 9.
unfoldable pub MergePromise : List ℕ → List ℕ → ℕ → List ℕ → Type 0
MergePromise first second set buffer = (merge_report (merge_outcome first second set buffer).answer).refused ≡ 0
    → (one other order : List HalfEvent) × (map half_event_of (fields_in (after_first_byte first)) ≡ map Some one) × (map half_event_of (fields_in (after_first_byte second)) ≡ map Some other)
    × KeepsBoth one other order × (sends_first [] order ≡ true) × SplitBy set one other
    × ((merge_report (merge_outcome first second set buffer).answer).value ≡ Some (1 + 4 * length order))
    × ((merge_outcome first second set buffer).buffer ≡ written buffer (count_of first ∷ plain_bytes (newest_first [] order)))
    × ((s : Run) → state_after_records s (plain_bytes (newest_first [] order)) ≡ state_after s (calls_from [] order))
