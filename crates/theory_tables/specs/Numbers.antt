-- A table of the numbers of document 01, "Who can cause which refusal": for each number a start, a call or a trace that meets it, and with it one at the
-- limit that does not. What a refused start returns, and under which record number 13 prints. Note 11 of document 02: what is printed where a replay
-- stops, and which words ask for all. proofs/Exam has the theorem.
-- Assumes nothing.
use Rattle.std.specs.Prelude.{◌&&◌, ◌∷◌, ◌-◌, Some}
use Rattle.laws.specs.Basics.{Bool, true, false, not, List, [], ℕ, eqb, length, set, replicate, pick}
use Rattle.laws.specs.Tests.{every, same}
use Rattle.model.specs.declared.{Interval.Interval, Run.Run}
use Rattle.model.specs.Words.{most_processes, most_under_way, initial, basic, ones, zero_vector, no_pins_of, blank, with_process, with_messages, with_disk}
use Rattle.model.specs.{Steps.start_state, Sound.zero_from, Sound.nothing_from, Sound.unused_checkpoint, Sound.unused_message}
use Rattle.whole_runs.specs.{Outcomes.start_outcome, Outcomes.start_report, Listing.asks_for_all, Listing.listing}
use Rattle.whole_runs.specs.Calls.{Call, checkpoint, send, deliver, lose, recover, line, call, state_after}
use Rattle.theory_tables.specs.Exam.{deletion_list, line_list}

-- A count and block counts, and the number that a start with them meets; 0: accepted.
pub record StartNumber : Type 0 where
  pub count : ℕ
  pub block_counts : List ℕ
  pub meets : ℕ

-- A call on a state, and the number that it meets; 0: accepted.
pub record CallNumber : Type 0 where
  pub state : Run
  pub made : Call
  pub meets : ℕ

-- The bytes of a trace, and what the replay prints of it, whether it stops at a refusal or not.
pub record TraceNumber : Type 0 where
  pub bytes : List ℕ
  pub prints : List ℕ

-- Note 11: the bytes of a trace, what the replay prints of it, and what it prints in the old way.
pub record Stop : Type 0 where
  pub bytes : List ℕ
  pub prints : List ℕ
  pub prints_all : List ℕ

-- Note 11: how many words the program was started with, the one after its name, and whether they ask for all.
pub record Argument : Type 0 where
  pub words : ℕ
  pub argument : List ℕ
  pub all : Bool

unfoldable pub start_meets : StartNumber → Bool
start_meets c = eqb (start_report (start_outcome c.count c.block_counts).answer).refused c.meets

unfoldable pub call_meets : CallNumber → Bool
call_meets c = eqb (call c.state c.made).reply.report.refused c.meets

unfoldable pub trace_prints : TraceNumber → Bool
trace_prints c = same (listing false c.bytes) c.prints && same (listing true c.bytes) c.prints

unfoldable pub stop_prints : Stop → Bool
stop_prints c = same (listing false c.bytes) c.prints && same (listing true c.bytes) c.prints_all

unfoldable pub argument_asks : Argument → Bool
argument_asks c = eqb (pick (asks_for_all c.words c.argument) 1 0) (pick c.all 1 0)

-- "a state of zeros with every pin none", of 16 rows of 16 places and 64 places for messages.
unfoldable pub of_zeros : Run → Bool
of_zeros s =
    eqb s.count 0
    && eqb (length s.vectors.0) most_processes
    && every (λ row. eqb (length row) most_processes && zero_from 0 row) s.vectors.0
    && eqb (length s.pins.0) most_processes
    && every (λ row. eqb (length row) most_processes && nothing_from 0 row) s.pins.0
    && eqb (length s.sent) most_processes
    && every not s.sent
    && eqb (length s.kept.0) most_processes
    && every (λ row. eqb (length row) most_processes && every unused_checkpoint row) s.kept.0
    && eqb (length s.kept_count) most_processes
    && every (eqb 0) s.kept_count
    && eqb (length s.messages) most_under_way
    && every unused_message s.messages
    && eqb s.underway 0
    && eqb s.last 0
    && eqb s.disk.written 0
    && eqb s.disk.deleted 0

-- Block counts of 1 but for one process.
abbrev pub all_but_one : ℕ → ℕ → List ℕ
all_but_one p count = set ones p count

-- "1: start with a count outside 1 to 16."
unfoldable pub starts : List StartNumber
starts =
    record { count = 0; block_counts = ones; meets = 1 }
    ∷ record { count = 1; block_counts = ones; meets = 0 }
    ∷ record { count = 16; block_counts = ones; meets = 0 }
    ∷ record { count = 17; block_counts = ones; meets = 1 }
    -- Note 5: "15, at the start after 1, for a block count outside 1 to 65,535", of the first, the only and the last process
    ∷ record { count = 0; block_counts = replicate most_processes 0; meets = 1 }
    ∷ record { count = 17; block_counts = replicate most_processes 0; meets = 1 }
    ∷ record { count = 1; block_counts = all_but_one 0 0; meets = 15 }
    ∷ record { count = 1; block_counts = all_but_one 0 65_535; meets = 0 }
    ∷ record { count = 1; block_counts = all_but_one 0 65_536; meets = 15 }
    ∷ record { count = 2; block_counts = all_but_one 1 0; meets = 15 }
    ∷ record { count = 2; block_counts = all_but_one 1 65_535; meets = 0 }
    ∷ record { count = 2; block_counts = all_but_one 1 65_536; meets = 15 }
    ∷ record { count = 16; block_counts = all_but_one 15 0; meets = 15 }
    ∷ record { count = 16; block_counts = all_but_one 15 65_535; meets = 0 }
    ∷ record { count = 16; block_counts = all_but_one 15 65_536; meets = 15 }
    -- "those at n and above are neither judged nor stored"
    ∷ record { count = 1; block_counts = all_but_one 1 0; meets = 0 }
    ∷ record { count = 1; block_counts = all_but_one 1 65_536; meets = 0 }
    ∷ record { count = 2; block_counts = all_but_one 2 0; meets = 0 }
    ∷ record { count = 2; block_counts = all_but_one 2 65_536; meets = 0 }
    ∷ []

-- Two processes: their start; after one send from 0 to 1; after 63 and 64; with the last used number given.
abbrev pub begun : Run
begun = start_state 2 ones

abbrev pub sent_once : Run
sent_once = state_after begun (send 0 1 ∷ [])

abbrev pub sent_often : ℕ → Run
sent_often k = state_after begun (replicate k (send 0 1))

abbrev pub numbered : ℕ → Run
numbered last = with_messages begun [] last

-- A forged state, yet a sound one: the own entry of process 0 is given, and so is its sent mark; its only checkpoint is the last, with nothing of
-- process 1 in it. Message 1 is under way to it and brings it news of process 1.
abbrev pub two_entries : ℕ → ℕ → List Interval
two_entries a b = set (set zero_vector 0 (record { 0 = a })) 1 (record { 0 = b })

abbrev pub at_interval : ℕ → Bool → Run
at_interval own mark = with_messages
    (with_process begun 0 (record {
      vector = two_entries own 0;
      pins = set no_pins_of 0 (Some (record { 0 = own - 1 }));
      mark = mark;
      kept = record { index = record { 0 = own - 1 }; vector = two_entries (own - 1) 0; cause = basic; blocks = 1 } ∷ [];
    }))
    (record { number = 1; sender = 1; receiver = 0; vector = two_entries 0 1 } ∷ [])
    1

-- Another forged state that is sound: the checkpoint and the live state of process 1 both know the current interval of process 0.
abbrev pub knowing : Run
knowing = with_process begun 1 (record {
  vector = two_entries 1 1;
  pins = set no_pins_of 1 (Some (record { 0 = 0 }));
  mark = false;
  kept = record { index = record { 0 = 0 }; vector = two_entries 1 0; cause = initial; blocks = 1 } ∷ [];
})

-- Note 5. Two processes with the block counts 1 and 65,535, and on such a state the blocks written and deleted put in by hand: a sound state exactly if they
-- have the sum. After two sends that cross, a delivery of message 2 forces a checkpoint of process 1.
abbrev pub billed_state : Run → ℕ → ℕ → Run
billed_state s written deleted = with_disk s (record { written = written; deleted = deleted })

abbrev pub counted : Run
counted = start_state 2 (all_but_one 1 65_535)

abbrev pub crossing : Run
crossing = state_after counted (send 1 0 ∷ send 0 1 ∷ [])

abbrev pub quiet : Run
quiet = state_after counted (send 0 1 ∷ [])

unfoldable pub calls : List CallNumber
calls =
    -- "2: a state that is not sound": no process has a checkpoint, and own entries are 0
    record { state = blank 2; made = send 0 1; meets = 2 }
    ∷ record { state = begun; made = send 0 1; meets = 0 }
    -- ".. or a line or recover call where some process has no state the line rule accepts .. judged after all other numbers"
    ∷ record { state = knowing; made = line 1 (line_list 2); meets = 2 }
    ∷ record { state = knowing; made = recover 1 (deletion_list 2) (line_list 2); meets = 2 }
    ∷ record { state = knowing; made = line 2 (line_list 2); meets = 0 }
    ∷ record { state = knowing; made = recover 0 (deletion_list 2) (line_list 2); meets = 0 }
    ∷ record { state = knowing; made = line 1 (line_list 1); meets = 3 }
    -- "3: deletion list below 2 × n × n entries, or line list below n."
    ∷ record { state = begun; made = checkpoint 0 (replicate 7 9); meets = 3 }
    ∷ record { state = begun; made = checkpoint 0 (replicate 8 9); meets = 0 }
    ∷ record { state = sent_once; made = deliver 1 (replicate 7 9); meets = 3 }
    ∷ record { state = sent_once; made = deliver 1 (replicate 8 9); meets = 0 }
    ∷ record { state = begun; made = recover 1 (replicate 7 9) (replicate 2 9); meets = 3 }
    ∷ record { state = begun; made = recover 1 (replicate 8 9) (replicate 1 9); meets = 3 }
    ∷ record { state = begun; made = recover 1 (replicate 8 9) (replicate 2 9); meets = 0 }
    ∷ record { state = begun; made = line 1 (replicate 1 9); meets = 3 }
    ∷ record { state = begun; made = line 1 (replicate 2 9); meets = 0 }
    -- "4: process not below n."
    ∷ record { state = begun; made = checkpoint 2 (deletion_list 2); meets = 4 }
    ∷ record { state = begun; made = checkpoint 1 (deletion_list 2); meets = 0 }
    ∷ record { state = begun; made = send 2 0; meets = 4 }
    ∷ record { state = begun; made = send 0 2; meets = 4 }
    -- "5: sender is receiver." "the lowest number is given"
    ∷ record { state = begun; made = send 1 1; meets = 5 }
    ∷ record { state = begun; made = send 1 0; meets = 0 }
    ∷ record { state = begun; made = send 2 2; meets = 4 }
    -- Note 4: "Refusal 6 never occurs any more": the empty set is accepted. "7: failed set has a bit at n or above."
    ∷ record { state = begun; made = line 0 (line_list 2); meets = 0 }
    ∷ record { state = begun; made = recover 0 (deletion_list 2) (line_list 2); meets = 0 }
    ∷ record { state = begun; made = line 3 (line_list 2); meets = 0 }
    ∷ record { state = begun; made = line 4 (line_list 2); meets = 7 }
    ∷ record { state = begun; made = recover 4 (deletion_list 2) (line_list 2); meets = 7 }
    -- "8: message not under way."
    ∷ record { state = begun; made = deliver 1 (deletion_list 2); meets = 8 }
    ∷ record { state = sent_once; made = deliver 1 (deletion_list 2); meets = 0 }
    ∷ record { state = sent_once; made = deliver 2 (deletion_list 2); meets = 8 }
    ∷ record { state = begun; made = lose 1; meets = 8 }
    ∷ record { state = sent_once; made = lose 1; meets = 0 }
    -- "9: send with 64 under way."
    ∷ record { state = sent_often 63; made = send 0 1; meets = 0 }
    ∷ record { state = sent_often 64; made = send 0 1; meets = 9 }
    -- "10: send with number 1,000,000 used."
    ∷ record { state = numbered 999_999; made = send 0 1; meets = 0 }
    ∷ record { state = numbered 1_000_000; made = send 0 1; meets = 10 }
    -- "11: a checkpoint, or a delivery that forces one, where the own entry is 65,535."
    ∷ record { state = at_interval 65_534 true; made = checkpoint 0 (deletion_list 2); meets = 0 }
    ∷ record { state = at_interval 65_535 true; made = checkpoint 0 (deletion_list 2); meets = 11 }
    ∷ record { state = at_interval 65_534 true; made = deliver 1 (deletion_list 2); meets = 0 }
    ∷ record { state = at_interval 65_535 true; made = deliver 1 (deletion_list 2); meets = 11 }
    ∷ record { state = at_interval 65_535 false; made = deliver 1 (deletion_list 2); meets = 0 }
    -- Note 5: "A sound state now has .. that sum", in both directions, with numbers whose sum of 64 bits would be right, and "within the bound of 16"
    ∷ record { state = billed_state counted 65_536 0; made = checkpoint 0 (deletion_list 2); meets = 0 }
    ∷ record { state = billed_state counted 65_537 1; made = checkpoint 0 (deletion_list 2); meets = 0 }
    ∷ record { state = billed_state counted 65_537 0; made = checkpoint 0 (deletion_list 2); meets = 2 }
    ∷ record { state = billed_state counted 65_536 1; made = checkpoint 0 (deletion_list 2); meets = 2 }
    ∷ record { state = billed_state counted 65_535 18_446_744_073_709_551_615; made = checkpoint 0 (deletion_list 2); meets = 2 }
    ∷ record { state = billed_state counted 0 18_446_744_073_709_486_080; made = checkpoint 0 (deletion_list 2); meets = 2 }
    ∷ record { state = billed_state counted 1_000_000_000_000_001 999_999_999_934_465; made = checkpoint 0 (deletion_list 2); meets = 2 }
    -- Note 5: "16, after 11, for a stored checkpoint that would take written past 1,000,000,000,000,000", of one block
    ∷ record { state = billed_state counted 999_999_999_999_999 999_999_999_934_463; made = checkpoint 0 (deletion_list 2); meets = 0 }
    ∷ record { state = billed_state counted 1_000_000_000_000_000 999_999_999_934_464; made = checkpoint 0 (deletion_list 2); meets = 16 }
    -- and of 65,535 blocks: a checkpoint, a delivery that forces one, a delivery that forces none, a recovery and a sweep
    ∷ record { state = billed_state crossing 999_999_999_934_465 999_999_999_868_929; made = checkpoint 1 (deletion_list 2); meets = 0 }
    ∷ record { state = billed_state crossing 999_999_999_934_465 999_999_999_868_929; made = deliver 2 (deletion_list 2); meets = 0 }
    ∷ record { state = billed_state crossing 999_999_999_934_466 999_999_999_868_930; made = checkpoint 1 (deletion_list 2); meets = 16 }
    ∷ record { state = billed_state crossing 999_999_999_934_466 999_999_999_868_930; made = deliver 2 (deletion_list 2); meets = 16 }
    ∷ record { state = billed_state quiet 1_000_000_000_000_000 999_999_999_934_464; made = deliver 1 (deletion_list 2); meets = 0 }
    ∷ record { state = billed_state quiet 1_000_000_000_000_000 999_999_999_934_464; made = recover 1 (deletion_list 2) (line_list 2); meets = 0 }
    ∷ record { state = billed_state quiet 1_000_000_000_000_000 999_999_999_934_464; made = recover 0 (deletion_list 2) (line_list 2); meets = 0 }
    -- where 11 holds too, it is given
    ∷ record { state = billed_state (at_interval 65_534 true) 1_000_000_000_000_000 999_999_999_999_998; made = checkpoint 0 (deletion_list 2); meets = 16 }
    ∷ record { state = billed_state (at_interval 65_535 true) 1_000_000_000_000_000 999_999_999_999_998; made = checkpoint 0 (deletion_list 2); meets = 11 }
    ∷ record { state = billed_state (at_interval 65_534 true) 1_000_000_000_000_000 999_999_999_999_998; made = deliver 1 (deletion_list 2); meets = 16 }
    ∷ record { state = billed_state (at_interval 65_535 true) 1_000_000_000_000_000 999_999_999_999_998; made = deliver 1 (deletion_list 2); meets = 11 }
    ∷ []

-- Texts in ASCII.
unfoldable pub traces : List TraceNumber
traces =
    -- "12: no first byte." "A bad first byte prints record number 0 and the refusal and ends": "0 12", "0 1", and nothing for a trace without records
    record { bytes = []; prints = 48 ∷ 32 ∷ 49 ∷ 50 ∷ 10 ∷ [] }
    ∷ record { bytes = 0 ∷ []; prints = 48 ∷ 32 ∷ 49 ∷ 10 ∷ [] }
    ∷ record { bytes = 17 ∷ 0x20 ∷ 0 ∷ 0 ∷ 1 ∷ []; prints = 48 ∷ 32 ∷ 49 ∷ 10 ∷ [] }
    ∷ record { bytes = 2 ∷ []; prints = [] }
    -- "13: one to three bytes left over." "13 prints under the next record number and ends": "1 13"
    ∷ record { bytes = 2 ∷ 0x20 ∷ []; prints = 49 ∷ 32 ∷ 49 ∷ 51 ∷ 10 ∷ [] }
    ∷ record { bytes = 2 ∷ 0x20 ∷ 0 ∷ []; prints = 49 ∷ 32 ∷ 49 ∷ 51 ∷ 10 ∷ [] }
    ∷ record { bytes = 2 ∷ 0x20 ∷ 0 ∷ 0 ∷ []; prints = 49 ∷ 32 ∷ 49 ∷ 51 ∷ 10 ∷ [] }
    -- a whole record, "1 0 1 0", and one to three bytes after it, "2 13"
    ∷ record { bytes = 2 ∷ 0x20 ∷ 0 ∷ 0 ∷ 1 ∷ []; prints = 49 ∷ 32 ∷ 48 ∷ 32 ∷ 49 ∷ 32 ∷ 48 ∷ 10 ∷ [] }
    ∷ record { bytes = 2 ∷ 0x20 ∷ 0 ∷ 0 ∷ 1 ∷ 7 ∷ []; prints = 49 ∷ 32 ∷ 48 ∷ 32 ∷ 49 ∷ 32 ∷ 48 ∷ 10 ∷ 50 ∷ 32 ∷ 49 ∷ 51 ∷ 10 ∷ [] }
    ∷ record { bytes = 2 ∷ 0x20 ∷ 0 ∷ 0 ∷ 1 ∷ 7 ∷ 7 ∷ []; prints = 49 ∷ 32 ∷ 48 ∷ 32 ∷ 49 ∷ 32 ∷ 48 ∷ 10 ∷ 50 ∷ 32 ∷ 49 ∷ 51 ∷ 10 ∷ [] }
    ∷ record { bytes = 2 ∷ 0x20 ∷ 0 ∷ 0 ∷ 1 ∷ 7 ∷ 7 ∷ 7 ∷ []; prints = 49 ∷ 32 ∷ 48 ∷ 32 ∷ 49 ∷ 32 ∷ 48 ∷ 10 ∷ 50 ∷ 32 ∷ 49 ∷ 51 ∷ 10 ∷ [] }
    -- "14: unused kind": kinds 5 and 7, "1 14"; kind 4 is recover, here {0}, "1 0 1 0"
    ∷ record { bytes = 2 ∷ 0xA0 ∷ 0 ∷ 0 ∷ 1 ∷ []; prints = 49 ∷ 32 ∷ 49 ∷ 52 ∷ 10 ∷ [] }
    ∷ record { bytes = 2 ∷ 0xE0 ∷ 0 ∷ 0 ∷ 1 ∷ []; prints = 49 ∷ 32 ∷ 49 ∷ 52 ∷ 10 ∷ [] }
    ∷ record { bytes = 2 ∷ 0x80 ∷ 0 ∷ 0 ∷ 1 ∷ []; prints = 49 ∷ 32 ∷ 48 ∷ 32 ∷ 49 ∷ 32 ∷ 48 ∷ 10 ∷ [] }
    -- with the argument 0 it is a sweep, "1 0 0 0"; a set with bits at 16 and above only is not empty, "1 7"
    ∷ record { bytes = 2 ∷ 0x80 ∷ 0 ∷ 0 ∷ 0 ∷ []; prints = 49 ∷ 32 ∷ 48 ∷ 32 ∷ 48 ∷ 32 ∷ 48 ∷ 10 ∷ [] }
    ∷ record { bytes = 2 ∷ 0x80 ∷ 1 ∷ 0 ∷ 0 ∷ []; prints = 49 ∷ 32 ∷ 55 ∷ 10 ∷ [] }
    ∷ record { bytes = 2 ∷ 0x81 ∷ 0 ∷ 0 ∷ 0 ∷ []; prints = 49 ∷ 32 ∷ 55 ∷ 10 ∷ [] }
    -- "or a field that must be zero is not": the argument of a checkpoint, the process of a delivery, a loss, a recovery; "given before any other number
    -- for that record": with the fields zero the delivery gets its 8, "1 8"
    ∷ record { bytes = 2 ∷ 0 ∷ 0 ∷ 0 ∷ 1 ∷ []; prints = 49 ∷ 32 ∷ 49 ∷ 52 ∷ 10 ∷ [] }
    ∷ record { bytes = 2 ∷ 0x42 ∷ 0 ∷ 0 ∷ 1 ∷ []; prints = 49 ∷ 32 ∷ 49 ∷ 52 ∷ 10 ∷ [] }
    ∷ record { bytes = 2 ∷ 0x62 ∷ 0 ∷ 0 ∷ 1 ∷ []; prints = 49 ∷ 32 ∷ 49 ∷ 52 ∷ 10 ∷ [] }
    ∷ record { bytes = 2 ∷ 0x82 ∷ 0 ∷ 0 ∷ 1 ∷ []; prints = 49 ∷ 32 ∷ 49 ∷ 52 ∷ 10 ∷ [] }
    ∷ record { bytes = 2 ∷ 0x40 ∷ 0 ∷ 0 ∷ 1 ∷ []; prints = 49 ∷ 32 ∷ 56 ∷ 10 ∷ [] }
    ∷ []

-- Note 11: "stops after printing the first refusal", in the old way "after any other refusal it goes on".
unfoldable pub stops : List Stop
stops =
    -- a checkpoint with an argument, "1 14", then one without, "2 0 1 1 0:0"
    record { bytes = 2 ∷ 0 ∷ 0 ∷ 0 ∷ 1 ∷ 0 ∷ 0 ∷ 0 ∷ 0 ∷ []; prints = 49 ∷ 32 ∷ 49 ∷ 52 ∷ 10 ∷ []; prints_all = 49 ∷ 32 ∷ 49 ∷ 52 ∷ 10 ∷ 50 ∷ 32 ∷ 48 ∷ 32 ∷ 49 ∷ 32 ∷ 49 ∷ 32 ∷ 48 ∷ 58 ∷ 48 ∷ 10 ∷ [] }
    -- a sweep, "1 0 0 0", a send from 0 to 0, "2 5", and a byte that is left over, "3 13"
    ∷ record {
      bytes = 2 ∷ 0x80 ∷ 0 ∷ 0 ∷ 0 ∷ 0x20 ∷ 0 ∷ 0 ∷ 0 ∷ 7 ∷ [];
      prints = 49 ∷ 32 ∷ 48 ∷ 32 ∷ 48 ∷ 32 ∷ 48 ∷ 10 ∷ 50 ∷ 32 ∷ 53 ∷ 10 ∷ [];
      prints_all = 49 ∷ 32 ∷ 48 ∷ 32 ∷ 48 ∷ 32 ∷ 48 ∷ 10 ∷ 50 ∷ 32 ∷ 53 ∷ 10 ∷ 51 ∷ 32 ∷ 49 ∷ 51 ∷ 10 ∷ [];
    }
    -- two deliveries of a message that was not sent, "1 8" and "2 8"
    ∷ record { bytes = 2 ∷ 0x40 ∷ 0 ∷ 0 ∷ 1 ∷ 0x40 ∷ 0 ∷ 0 ∷ 1 ∷ []; prints = 49 ∷ 32 ∷ 56 ∷ 10 ∷ []; prints_all = 49 ∷ 32 ∷ 56 ∷ 10 ∷ 50 ∷ 32 ∷ 56 ∷ 10 ∷ [] }
    ∷ []

-- Note 11: no argument; `all`; "any other argument": an empty one, `al`, `ALL`, `allx`, `xall`; "or more than one": `all all`, and a second one that is any.
unfoldable pub arguments : List Argument
arguments =
    record { words = 1; argument = []; all = false }
    ∷ record { words = 2; argument = 97 ∷ 108 ∷ 108 ∷ []; all = true }
    ∷ record { words = 2; argument = []; all = false }
    ∷ record { words = 2; argument = 97 ∷ 108 ∷ []; all = false }
    ∷ record { words = 2; argument = 65 ∷ 76 ∷ 76 ∷ []; all = false }
    ∷ record { words = 2; argument = 97 ∷ 108 ∷ 108 ∷ 120 ∷ []; all = false }
    ∷ record { words = 2; argument = 120 ∷ 97 ∷ 108 ∷ 108 ∷ []; all = false }
    ∷ record { words = 3; argument = 97 ∷ 108 ∷ 108 ∷ []; all = false }
    ∷ []

-- The whole table: the starts, and what a refused one returns; the traces; the calls; where a replay stops, and which words ask it not to.
unfoldable pub numbers_right : Bool
numbers_right =
    every start_meets starts && of_zeros (start_outcome 0 ones).run && of_zeros (start_outcome 17 ones).run && of_zeros (start_outcome 1 (all_but_one 0 0)).run && every trace_prints traces && every call_meets calls
    && every stop_prints stops && every argument_asks arguments
