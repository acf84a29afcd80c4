-- What is promised of the program, over every list of answers of the system.
-- Assumes nothing.
use Rattle.std.specs.Prelude.{◌≡◌, ◌∷◌, ◌+◌, ◌*◌, ◌≤◌}
use Rattle.laws.specs.Basics.{true, false, List, [], ℕ, eqb, length, pick}
use Rattle.model.specs.Words.{ones}
use Rattle.whole_runs.specs.Listing.{most_records}
use Rattle.machines.specs.programs.Numbers.{number_in}
use Rattle.theory_recording.specs.Recording.{begun, entries, trace_of, ReplaysTheSame}
use Rattle.machines.specs.Machines.{Read, Write, Say, Fail, Stop, Answer, Number, Bytes, End, Done, Failed, Exchange, Ends, heard, stepped, state_after, asked, exchanges, error_text as reported-by, written_of, error_text_of, brought, read_of}
use Rattle.machine_record.specs.Recorded.{calls_in, lent, long_enough, start_number, tape_of, recorded_trace, refused_line, refused_lines, last_line}
use Rattle.machine_record.specs.Machine.{State, beginning, machine, ask, input_name, output_name}

-- The size of the buffer by what was asked and answered: long enough where there is no argument, else the number that the argument is.
unfoldable pub words_in : Answer → ℕ
words_in (Number words) = words
words_in (Bytes l) = 0
words_in End = 0
words_in Done = 0
words_in Failed = 0

unfoldable pub size_given : List Exchange → ℕ
size_given [] = long_enough
size_given (e ∷ talk) = number_in (brought e.answer)

unfoldable pub size_asked : List Exchange → ℕ
size_asked [] = long_enough
size_asked (e ∷ talk) = pick (eqb (words_in e.answer) 2) (size_given talk) long_enough

pub record RecordsItsInput : Type 0 where
  -- What it asked to be written is exactly the recorded trace of the input's own calls, as far as was read.
  pub written : (answers : List Answer) → let talk = exchanges machine answers in written_of (asked machine answers) ≡ recorded_trace (size_asked talk) (read_of talk)
  -- Whenever it asks to read, a line was reported for each refused record, and nothing else;
  pub reported : (answers : List Answer) (most : ℕ) → ask (state_after machine answers) ≡ Read most
      → let talk = exchanges machine answers in error_text_of (asked machine answers) ≡ refused_lines (size_asked talk) (read_of talk)
  -- at the end of the input one more for left-over bytes or for want of a first byte.
  pub ended : (answers : List Answer) (most : ℕ) → ask (state_after machine answers) ≡ Read most
      → let talk = exchanges machine answers in reported-by (ask (stepped machine (state_after machine answers) End)) ≡ last_line (size_asked talk) (read_of talk)
  -- A refused first byte is reported, and nothing more is read.
  pub refused : (size n : ℕ) → eqb (start_number size n) 0 ≡ false → ask (stepped machine (beginning size) (Bytes (n ∷ []))) ≡ Say (refused_line 0 (start_number size n))
  -- It asks to read one byte or more, and none past record 1,000,000,000.
  pub reads : (answers : List Answer) (most : ℕ) → ask (state_after machine answers) ≡ Read most → (1 ≤ most) × (length (read_of (exchanges machine answers)) + most ≤ 1 + 4 * most_records)
  -- After an error of the system it says so;
  pub input_fails : (s : State) (most : ℕ) (a : Answer) → ask s ≡ Read most → heard (Read most) a ≡ Failed → ask (stepped machine s a) ≡ Fail input_name
  pub output_fails : (s : State) (text : List ℕ) (a : Answer) → ask s ≡ Write text → heard (Write text) a ≡ Failed → ask (stepped machine s a) ≡ Fail output_name
  -- after that, and after the end of the input, it asks for nothing more.
  pub stops_after : (s : State) (text : List ℕ) (a : Answer) → ask s ≡ Fail text → ask (stepped machine s a) ≡ Stop
  pub stops_at_end : (s : State) (most : ℕ) (a : Answer) → ask s ≡ Read most → ask (stepped machine (stepped machine s End) a) ≡ Stop
  -- It stops after finitely many answers that bring bytes: each byte gives it no more than three, and it has four besides.
  pub stops : (answers : List Answer) → 4 + 3 * length (read_of (exchanges machine answers)) ≤ length (exchanges machine answers) → ask (state_after machine answers) ≡ Stop
  pub ends : Ends machine

-- Note 9 of what the program writes: where the start is accepted, it is the count and the records of those calls of the input that were accepted, and a replay of it is the
-- same.
unfoldable pub WrittenReplays : Type 0
WrittenReplays = (size n : ℕ) (l : List ℕ) → eqb (start_number size n) 0 ≡ true
    → (recorded_trace size (n ∷ l) ≡ n ∷ trace_of (entries (begun n ones (lent size)) (calls_in l)))
    × ReplaysTheSame n ones (lent size) (tape_of size n l) (entries (begun n ones (lent size)) (calls_in l))
