-- What the recorder leaves of an input: each record's call goes through it, the start first, in one buffer of that many bytes (document 02, Note 9).
-- Assumes nothing.
use Rattle.std.specs.Prelude.{◌∷◌, ◌++◌, ◌+◌, ◌*◌}
use Rattle.laws.specs.Basics.{List, [], Option, None, Some, ℕ, suc, eqb, take, replicate, pick}
use Rattle.model.specs.declared.{Event.Event, Refusal.TheVariants.MalformedRecord, Refusal.TheVariants.NoFirstByte, Refusal.TheVariants.LeftOverBytes}
use Rattle.model.specs.{Refusals.number, Trace.decoded, Words.ones}
use Rattle.whole_runs.specs.{Outcomes.refusing, Outcomes.start_report, Calls.Call, Listing.call_of, Listing.decimal, Listing.line_feed, Listing.most_records}
use Rattle.theory_recording.specs.Recording.{Tape, Taped, recorded_start, recorded, begun, tape_after}

-- The call that a record stands for. A record that is malformed is no call.
unfoldable pub call_in : Option Event → List Call
call_in None = []
call_in (Some e) = call_of e ∷ []

-- The calls that stand in the records of a part of a trace, in their order. Left-over bytes are no record.
unfoldable pub calls_in : List ℕ → List Call
calls_in [] = []
calls_in (a ∷ []) = []
calls_in (a ∷ b ∷ []) = []
calls_in (a ∷ b ∷ c ∷ []) = []
calls_in (a ∷ b ∷ c ∷ d ∷ l) = call_in (decoded (a ∷ b ∷ c ∷ d ∷ [])) ++ calls_in l

-- "a lent buffer": one of that many bytes.
unfoldable pub lent : ℕ → List ℕ
lent size = replicate size 0

-- Long enough for every run that a replay takes whole: the first byte, and 1,000,000,000 records.
unfoldable pub long_enough : ℕ
long_enough = 1 + 4 * most_records

-- The start, with the first byte as the count and block counts 1: 0, or the number that it is refused with.
unfoldable pub start_number : ℕ → ℕ → ℕ
start_number size n = (start_report (recorded_start n ones (lent size)).outcome.answer).refused

-- What stands in the buffer up to the place that the next byte goes to.
unfoldable pub in_front : Tape → List ℕ
in_front t = take t.place t.buffer

-- The tape after the start and the calls of the records.
unfoldable pub tape_of : ℕ → ℕ → List ℕ → Tape
tape_of size n l = tape_after (begun n ones (lent size)) (calls_in l)

-- The trace that is recorded of an input: nothing where it has no first byte, or one that is refused.
unfoldable pub recorded_trace : ℕ → List ℕ → List ℕ
recorded_trace size [] = []
recorded_trace size (n ∷ l) = pick (eqb (start_number size n) 0) (in_front (tape_of size n l)) []

-- One record through the recorder: the tape after it, and its reply. "14: .. given before any other number for that record."
unfoldable pub recorded_in : Tape → Option Event → Taped
recorded_in t None = record { tape = t; reply = record { report = refusing MalformedRecord; rose = 0; deleted = []; line = [] } }
recorded_in t (Some e) = recorded t (call_of e)

-- "record: record ", byte by byte, and ": refused ".
abbrev pub record_name : List ℕ
record_name = 114 ∷ 101 ∷ 99 ∷ 111 ∷ 114 ∷ 100 ∷ 58 ∷ 32 ∷ 114 ∷ 101 ∷ 99 ∷ 111 ∷ 114 ∷ 100 ∷ 32 ∷ []

abbrev pub refused_name : List ℕ
refused_name = 58 ∷ 32 ∷ 114 ∷ 101 ∷ 102 ∷ 117 ∷ 115 ∷ 101 ∷ 100 ∷ 32 ∷ []

-- The line that is reported of a refused record: which record, which number.
unfoldable pub refused_line : ℕ → ℕ → List ℕ
refused_line record-number x = record_name ++ (decimal record-number ++ (refused_name ++ (decimal x ++ (line_feed ∷ []))))

-- Of a record that is accepted nothing is reported.
unfoldable pub line_for : ℕ → ℕ → List ℕ
line_for record-number x = pick (eqb x 0) [] (refused_line record-number x)

-- The lines of the records of a part of a trace, where `done` records were taken before. Left-over bytes are no record.
unfoldable pub lines_in : ℕ → Tape → List ℕ → List ℕ
lines_in done t [] = []
lines_in done t (a ∷ []) = []
lines_in done t (a ∷ b ∷ []) = []
lines_in done t (a ∷ b ∷ c ∷ []) = []
lines_in done t (a ∷ b ∷ c ∷ d ∷ l) =
    let o = recorded_in t (decoded (a ∷ b ∷ c ∷ d ∷ [])) in
    line_for (done + 1) o.reply.report.refused ++ lines_in (done + 1) o.tape l

-- The lines of an input as far as it is read: none before its first byte; of one that is refused, record number 0 and the refusal.
unfoldable pub refused_lines : ℕ → List ℕ → List ℕ
refused_lines size [] = []
refused_lines size (n ∷ l) = pick (eqb (start_number size n) 0) (lines_in 0 (begun n ones (lent size)) l) (refused_line 0 (start_number size n))

-- How many whole records a part of a trace has, and the bytes left over after them.
unfoldable pub whole_records : List ℕ → ℕ
whole_records [] = 0
whole_records (a ∷ []) = 0
whole_records (a ∷ b ∷ []) = 0
whole_records (a ∷ b ∷ c ∷ []) = 0
whole_records (a ∷ b ∷ c ∷ d ∷ l) = suc (whole_records l)

unfoldable pub left_over_of : List ℕ → List ℕ
left_over_of [] = []
left_over_of (a ∷ []) = a ∷ []
left_over_of (a ∷ b ∷ []) = a ∷ b ∷ []
left_over_of (a ∷ b ∷ c ∷ []) = a ∷ b ∷ c ∷ []
left_over_of (a ∷ b ∷ c ∷ d ∷ l) = left_over_of l

-- What is reported at the end of the records, where `done` were taken: "13 prints under the next record number".
unfoldable pub end_line : ℕ → List ℕ → List ℕ
end_line done [] = []
end_line done (a ∷ rest) = refused_line (done + 1) (number LeftOverBytes)

-- What is reported at the end of an input: "12: no first byte", "A bad first byte prints record number 0".
unfoldable pub last_line : ℕ → List ℕ → List ℕ
last_line size [] = refused_line 0 (number NoFirstByte)
last_line size (n ∷ l) = pick (eqb (start_number size n) 0) (end_line (whole_records l) (left_over_of l)) []
