-- The program `record` as a machine: what it asks for in each state, and how it goes on.
-- Assumes nothing.
use Rattle.std.specs.Prelude.{◌∷◌, ◌++◌, ◌+◌, ◌-◌, ◌*◌}
use Rattle.laws.specs.Basics.{List, [], ℕ, min, eqb, ltb, length, pick}
use Rattle.model.specs.declared.Refusal.TheVariants.{NoFirstByte}
use Rattle.model.specs.{Refusals.number, Steps.start_state, Words.ones}
use Rattle.whole_runs.specs.Listing.{most_records}
use Rattle.machines.specs.programs.Numbers.{number_in}
use Rattle.machines.specs.Machines.{Machine, Request, Count, Argument, Read, Write, Say, Fail, Stop, Answer, Number, Bytes, End, Done, Failed}
use Rattle.machine_record.specs.Recorded.{long_enough, start_number, refused_line, left_over_of, end_line}
use Rattle.machine_record.specs.Records.{Standing, standing_after, bytes_after, lines_after}

-- Where the recorder stands, and the bytes that were read and belong to no whole record yet.
pub record Position : Type 0 where
  pub standing : Standing
  pub rest : List ℕ

pub data State : Type 0 where
  -- how many words is the program started with?
  counting : State
  -- which word is the argument?
  naming : State
  -- the first byte is next; the size of the buffer
  beginning : ℕ → State
  -- what was recorded is written, and then lines are reported
  writing : List ℕ → List ℕ → Position → State
  reporting : List ℕ → Position → State
  reading : Position → State
  -- the last text is reported, or that the system failed
  ending : List ℕ → State
  failing : List ℕ → State
  stopped : State

-- "usage: record [BYTES], at most 1048576" and a line feed, "record: arguments", "record: standard input", "record: standard output", byte by byte.
abbrev pub usage : List ℕ
usage = 117 ∷ 115 ∷ 97 ∷ 103 ∷ 101 ∷ 58 ∷ 32 ∷ 114 ∷ 101 ∷ 99 ∷ 111 ∷ 114 ∷ 100 ∷ 32 ∷ 91 ∷ 66 ∷ 89 ∷ 84 ∷ 69 ∷ 83 ∷ 93 ∷ 44 ∷ 32 ∷ 97 ∷ 116 ∷ 32 ∷ 109 ∷ 111 ∷ 115 ∷ 116 ∷ 32 ∷ 49 ∷ 48 ∷ 52 ∷ 56 ∷ 53 ∷ 55 ∷ 54 ∷ 10 ∷ []

abbrev pub arguments_name : List ℕ
arguments_name = 114 ∷ 101 ∷ 99 ∷ 111 ∷ 114 ∷ 100 ∷ 58 ∷ 32 ∷ 97 ∷ 114 ∷ 103 ∷ 117 ∷ 109 ∷ 101 ∷ 110 ∷ 116 ∷ 115 ∷ []

abbrev pub input_name : List ℕ
input_name = 114 ∷ 101 ∷ 99 ∷ 111 ∷ 114 ∷ 100 ∷ 58 ∷ 32 ∷ 115 ∷ 116 ∷ 97 ∷ 110 ∷ 100 ∷ 97 ∷ 114 ∷ 100 ∷ 32 ∷ 105 ∷ 110 ∷ 112 ∷ 117 ∷ 116 ∷ []

abbrev pub output_name : List ℕ
output_name = 114 ∷ 101 ∷ 99 ∷ 111 ∷ 114 ∷ 100 ∷ 58 ∷ 32 ∷ 115 ∷ 116 ∷ 97 ∷ 110 ∷ 100 ∷ 97 ∷ 114 ∷ 100 ∷ 32 ∷ 111 ∷ 117 ∷ 116 ∷ 112 ∷ 117 ∷ 116 ∷ []

-- The largest buffer that an argument may ask for, the longest word that is looked at, and the bytes of a block.
abbrev pub largest_buffer : ℕ
largest_buffer = 1_048_576

abbrev pub longest_word : ℕ
longest_word = 4_096

abbrev pub block_bytes : ℕ
block_bytes = 4_096

-- No block is larger, and none reaches past record 1,000,000,000. The bytes kept are its first.
unfoldable pub most_to_read : Position → ℕ
most_to_read p = min block_bytes (4 * (most_records - p.standing.done)) - length p.rest

unfoldable pub ask : State → Request
ask counting = Count
ask naming = Argument 1 longest_word
ask (beginning size) = Read 1
ask (writing out lines p) = Write out
ask (reporting lines p) = Say lines
ask (reading p) = Read (most_to_read p)
ask (ending text) = Say text
ask (failing text) = Fail text
ask stopped = Stop

-- "The program ends after record 1,000,000,000 and reads nothing past it."
unfoldable pub to_read_of : Position → State
to_read_of p = pick (ltb p.standing.done most_records) (reading p) stopped

-- Nothing is reported or written where there is nothing to report or to write.
unfoldable pub to_report : List ℕ → Position → State
to_report [] p = to_read_of p
to_report (b ∷ lines) p = reporting (b ∷ lines) p

unfoldable pub to_write_of : List ℕ → List ℕ → Position → State
to_write_of [] lines p = to_report lines p
to_write_of (b ∷ out) lines p = writing (b ∷ out) lines p

unfoldable pub to_end_of : List ℕ → State
to_end_of [] = stopped
to_end_of (b ∷ text) = ending (b ∷ text)

-- Without an argument the buffer is long enough for every trace; one argument is its size.
unfoldable pub counted : ℕ → State
counted words = pick (ltb words 2) (beginning long_enough) (pick (eqb words 2) naming (ending usage))

unfoldable pub sized : ℕ → State
sized size = pick (ltb largest_buffer size) (ending usage) (beginning size)

-- The start: "whose first byte is the count; the start writes that byte".
unfoldable pub begun : ℕ → ℕ → State
begun size n = pick (eqb (start_number size n) 0)
    (writing (n ∷ []) [] (record { standing = record { run = start_state n ones; left = size - 1; done = 0 }; rest = [] }))
    (ending (refused_line 0 (start_number size n)))

unfoldable pub begins_with : ℕ → List ℕ → State
begins_with size [] = failing input_name
begins_with size (n ∷ l) = begun size n

-- A block: the bytes kept, and those that a read brought.
unfoldable pub block_taken : Standing → List ℕ → State
block_taken g block = to_write_of (bytes_after g block) (lines_after g block) (record { standing = standing_after g block; rest = left_over_of block })

-- How the machine goes on, for each kind of answer that fits what it asked for.
unfoldable pub next : State → Answer → State
next counting (Number words) = counted words
next counting (Bytes l) = failing arguments_name
next counting End = failing arguments_name
next counting Done = failing arguments_name
next counting Failed = failing arguments_name
next naming (Bytes word) = sized (number_in word)
next naming (Number x) = ending usage
next naming End = ending usage
next naming Done = ending usage
next naming Failed = ending usage
next (beginning size) (Bytes l) = begins_with size l
next (beginning size) End = ending (refused_line 0 (number NoFirstByte))
next (beginning size) (Number x) = failing input_name
next (beginning size) Done = failing input_name
next (beginning size) Failed = failing input_name
next (writing out lines p) Done = to_report lines p
next (writing out lines p) (Number x) = failing output_name
next (writing out lines p) (Bytes l) = failing output_name
next (writing out lines p) End = failing output_name
next (writing out lines p) Failed = failing output_name
next (reporting lines p) a = to_read_of p
next (reading p) (Bytes l) = block_taken p.standing (p.rest ++ l)
next (reading p) End = to_end_of (end_line p.standing.done p.rest)
next (reading p) (Number x) = failing input_name
next (reading p) Done = failing input_name
next (reading p) Failed = failing input_name
next (ending text) a = stopped
next (failing text) a = stopped
next stopped a = stopped

abbrev pub machine : Machine State
machine = record { first = counting; ask = ask; next = next }
