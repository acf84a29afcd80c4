-- The program `console` as a machine: it reads a script, makes its calls, eight bytes each, writes the line of each before it reads on, and stops.
-- Assumes nothing.
use Rattle.std.specs.Prelude.{◌≡◌, ◌∷◌, ◌++◌, ◌+◌, ◌-◌, ◌*◌, ◌≤◌, ◌<◌}
use Rattle.laws.specs.Basics.{Bool, true, false, List, [], ℕ, eqb, ltb, length, get_or, pick}
use Rattle.model.specs.declared.{Run.Run, Refusal.TheVariants.NoFirstByte, Refusal.TheVariants.LeftOverBytes}
use Rattle.machines.specs.Machines.{Request, Read, Write, Fail, Stop, Answer, Number, Bytes, End, Done, Failed, Machine, Exchange, asked, exchanges, state_after, written_of, error_text_of, read_of, gathered, end_met, failure}
use Rattle.machine_console.specs.Made.{made_on, opened}
use Rattle.machine_console.specs.Text.{call_size, first_call, call_text, line_text, refused_text, refused_at, lines_of, facts_of}

-- It makes no more calls than this; no script is so long.
abbrev pub most_calls : ℕ
most_calls = 9_000_000_000_000_000_000

-- "console: standard input" and "console: standard output", byte by byte: what is reported as having failed.
abbrev pub input_name : List ℕ
input_name = 99 ∷ 111 ∷ 110 ∷ 115 ∷ 111 ∷ 108 ∷ 101 ∷ 58 ∷ 32 ∷ 115 ∷ 116 ∷ 97 ∷ 110 ∷ 100 ∷ 97 ∷ 114 ∷ 100 ∷ 32 ∷ 105 ∷ 110 ∷ 112 ∷ 117 ∷ 116 ∷ []

abbrev pub output_name : List ℕ
output_name = 99 ∷ 111 ∷ 110 ∷ 115 ∷ 111 ∷ 108 ∷ 101 ∷ 58 ∷ 32 ∷ 115 ∷ 116 ∷ 97 ∷ 110 ∷ 100 ∷ 97 ∷ 114 ∷ 100 ∷ 32 ∷ 111 ∷ 117 ∷ 116 ∷ 112 ∷ 117 ∷ 116 ∷ []

-- Where a script stands between two calls: how many were made, the state after them, and the bytes that were read of the next one.
pub record Between : Type 0 where
  pub done : ℕ
  pub run : Run
  pub buffered : List ℕ

pub data State : Type 0 where
  -- The first byte is to be read.
  Opening : State
  -- The next call is to be read.
  Reading : Between → State
  -- The line of a call, after which there may be more.
  Printing : List ℕ → Between → State
  -- The last line.
  Ending : List ℕ → State
  -- What failed.
  Failing : List ℕ → State
  Stopped : State

unfoldable pub ask : State → Request
ask Opening = Read 1
ask (Reading b) = Read (call_size - length b.buffered)
ask (Printing line b) = Write line
ask (Ending line) = Write line
ask (Failing name) = Fail name
ask Stopped = Stop

-- The first byte starts the run, or is refused under number 0; so is a script that has none.
unfoldable pub begun : ℕ → State
begun n = pick (eqb (refused_at n) 0) (Reading (record { done = 0; run = (opened n).run; buffered = [] })) (Ending (line_text 0 (refused_at n) []))

unfoldable pub after_first_of : Answer → State
after_first_of (Number n) = Failing input_name
after_first_of (Bytes l) = begun (get_or l 0 0)
after_first_of End = Ending (refused_text 0 NoFirstByte)
after_first_of Done = Failing input_name
after_first_of Failed = Failing input_name

-- Eight bytes are a call, which is made.
unfoldable pub called : Between → State
called b = Printing (call_text (b.done + 1) b.run (first_call b.buffered)) (record { done = b.done + 1; run = (made_on b.run (first_call b.buffered)).run; buffered = [] })

unfoldable pub onward : Between → State
onward b = pick (ltb (length b.buffered) call_size) (Reading b) (called b)

-- Bytes left over are refused with 13.
unfoldable pub at_end : Between → State
at_end b = pick (eqb (length b.buffered) 0) Stopped (Ending (refused_text (b.done + 1) LeftOverBytes))

unfoldable pub after_read_of : Between → Answer → State
after_read_of b (Number n) = Failing input_name
after_read_of b (Bytes more) = onward (record { done = b.done; run = b.run; buffered = b.buffered ++ more })
after_read_of b End = at_end b
after_read_of b Done = Failing input_name
after_read_of b Failed = Failing input_name

unfoldable pub further_on : Between → State
further_on b = pick (ltb b.done most_calls) (Reading b) Stopped

unfoldable pub after_write_of : State → Answer → State
after_write_of then (Number n) = Failing output_name
after_write_of then (Bytes l) = Failing output_name
after_write_of then End = Failing output_name
after_write_of then Done = then
after_write_of then Failed = Failing output_name

unfoldable pub next : State → Answer → State
next Opening a = after_first_of a
next (Reading b) a = after_read_of b a
next (Printing line b) a = after_write_of (further_on b) a
next (Ending line) a = after_write_of Stopped a
next (Failing name) a = Stopped
next Stopped a = Stopped

abbrev pub consoling : Machine State
consoling = record { first = Opening; ask = ask; next = next }

-- What failed: a read or a write.
abbrev pub failures : List Exchange → List ℕ
failures talk = gathered (failure input_name output_name) talk

-- The facts of what was read: of a whole script once the input has ended, of its whole calls before.
abbrev pub facts_so_far : List Exchange → List ℕ
facts_so_far talk = pick (end_met talk) (facts_of (read_of talk)) (lines_of (read_of talk))

-- No first byte that is refused was read.
unfoldable pub is_open : List ℕ → Bool
is_open [] = true
is_open (n ∷ l) = eqb (refused_at n) 0

-- Of every list of answers of the system:
pub record Consoles (answers : List Answer) : Type 0 where
  -- what is asked to be written is the facts of what was read, all of them;
  pub tells : written_of (asked consoling answers) ≡ facts_so_far (exchanges consoling answers)
  -- nothing is asked to be read past the end, after a refused first byte or a failure, or past the last call;
  pub reads : (most : ℕ) → ask (state_after consoling answers) ≡ Read most
      → (end_met (exchanges consoling answers) ≡ false) × (is_open (read_of (exchanges consoling answers)) ≡ true) × (failures (exchanges consoling answers) ≡ [])
      × (length (read_of (exchanges consoling answers)) + most ≤ 1 + call_size * most_calls)
  -- what failed is reported, and nothing else;
  pub says : error_text_of (asked consoling answers) ≡ failures (exchanges consoling answers)
  -- and it has stopped after no more than 10 answers a call.
  pub stops : 10 * most_calls + 13 < length answers → ask (state_after consoling answers) ≡ Stop

abbrev pub ConsolesAlways : Type 0
ConsolesAlways = (answers : List Answer) → Consoles answers
