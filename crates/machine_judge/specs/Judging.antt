-- The program `judge` as a machine: it reads a trace, writes the line of its verdict, and stops. It reads no more than settles the verdict.
-- Assumes nothing.
use Rattle.std.specs.Prelude.{◌≡◌, ◌||◌, ◌∷◌, ◌++◌, ◌+◌, ◌-◌, ◌≤◌, ◌<◌}
use Rattle.laws.specs.Basics.{Bool, true, false, List, [], ℕ, eqb, ltb, leb, length, pick}
use Rattle.model.specs.Words.{most_processes}
use Rattle.machines.specs.Machines.{Request, Read, Write, Fail, Stop, Answer, Number, Bytes, End, Done, Failed, Machine, Exchange, asked, exchanges, state_after, written_of, error_text_of, read_of, gathered, end_met, failure}
use Rattle.theory_patterns.specs.Verdicts.{verdict}
use Rattle.machine_judge.specs.Text.{verdict_text}

-- The first byte and 4,097 records: no trace of that many bytes or more has a verdict other than that of its first byte, or 17.
abbrev pub most_read : ℕ
most_read = 16389

-- No byte that follows can change the verdict: the first byte is no count of processes, or there are more records than a trace may have.
unfoldable pub settled : List ℕ → Bool
settled [] = false
settled (n ∷ l) = ltb n 1 || (ltb most_processes n || leb most_read (length (n ∷ l)))

-- "judge: standard input" and "judge: standard output", byte by byte: what is reported as having failed.
abbrev pub input_name : List ℕ
input_name = 106 ∷ 117 ∷ 100 ∷ 103 ∷ 101 ∷ 58 ∷ 32 ∷ 115 ∷ 116 ∷ 97 ∷ 110 ∷ 100 ∷ 97 ∷ 114 ∷ 100 ∷ 32 ∷ 105 ∷ 110 ∷ 112 ∷ 117 ∷ 116 ∷ []

abbrev pub output_name : List ℕ
output_name = 106 ∷ 117 ∷ 100 ∷ 103 ∷ 101 ∷ 58 ∷ 32 ∷ 115 ∷ 116 ∷ 97 ∷ 110 ∷ 100 ∷ 97 ∷ 114 ∷ 100 ∷ 32 ∷ 111 ∷ 117 ∷ 116 ∷ 112 ∷ 117 ∷ 116 ∷ []

pub data State : Type 0 where
  -- All bytes that were read.
  Reading : List ℕ → State
  -- The line that is to be written.
  Printing : List ℕ → State
  -- What failed.
  Failing : List ℕ → State
  Stopped : State

-- How many bytes are asked for where that many were read: the first by itself, since it may settle the verdict; then all that may count.
unfoldable pub wanted : ℕ → ℕ
wanted buffered = pick (eqb buffered 0) 1 (most_read - buffered)

unfoldable pub ask : State → Request
ask (Reading trace) = Read (wanted (length trace))
ask (Printing line) = Write line
ask (Failing name) = Fail name
ask Stopped = Stop

abbrev pub printing : List ℕ → State
printing trace = Printing (verdict_text (verdict trace))

-- More bytes are read unless the verdict is settled.
unfoldable pub onward : List ℕ → State
onward trace = pick (settled trace) (printing trace) (Reading trace)

unfoldable pub after_read_of : List ℕ → Answer → State
after_read_of trace (Number n) = Failing input_name
after_read_of trace (Bytes more) = onward (trace ++ more)
after_read_of trace End = printing trace
after_read_of trace Done = Failing input_name
after_read_of trace Failed = Failing input_name

unfoldable pub after_write_of : Answer → State
after_write_of (Number n) = Failing output_name
after_write_of (Bytes l) = Failing output_name
after_write_of End = Failing output_name
after_write_of Done = Stopped
after_write_of Failed = Failing output_name

unfoldable pub next : State → Answer → State
next (Reading trace) a = after_read_of trace a
next (Printing line) a = after_write_of a
next (Failing name) a = Stopped
next Stopped a = Stopped

abbrev pub judging : Machine State
judging = record { first = Reading []; ask = ask; next = next }

-- All that counts was read.
abbrev pub is_whole : List Exchange → Bool
is_whole talk = end_met talk || settled (read_of talk)

-- What failed: a read or a write.
abbrev pub failures : List Exchange → List ℕ
failures talk = gathered (failure input_name output_name) talk

-- Of every list of answers of the system:
pub record Judges (answers : List Answer) : Type 0 where
  -- what is asked to be written is the line of the verdict on all that was read, once all that counts was read, and nothing before;
  pub tells : written_of (asked judging answers) ≡ pick (is_whole (exchanges judging answers)) (verdict_text (verdict (read_of (exchanges judging answers)))) []
  -- nothing is asked to be read once all that counts was read or something failed, and no more than may count;
  pub reads : (most : ℕ) → ask (state_after judging answers) ≡ Read most
      → (is_whole (exchanges judging answers) ≡ false) × (failures (exchanges judging answers) ≡ []) × (length (read_of (exchanges judging answers)) + most ≤ most_read)
  -- what failed is reported, and nothing else;
  pub says : error_text_of (asked judging answers) ≡ failures (exchanges judging answers)
  -- and after more than 16,392 answers it has stopped.
  pub stops : most_read + 3 < length answers → ask (state_after judging answers) ≡ Stop

-- What is settled stays so: whatever bytes follow, they change nothing.
abbrev pub SettledForGood : Type 0
SettledForGood = (trace rest : List ℕ) → settled trace ≡ true → verdict (trace ++ rest) ≡ verdict trace

abbrev pub JudgesAlways : Type 0
JudgesAlways = (answers : List Answer) → Judges answers
