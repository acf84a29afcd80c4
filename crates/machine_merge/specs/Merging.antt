-- The program `merge` as a machine: it takes the set, reads one half after the other to its end, writes the merged trace or reports why there is none, and stops.
-- Assumes nothing.
use Rattle.std.specs.Prelude.{◌∷◌, ◌++◌, ◌+◌}
use Rattle.laws.specs.Basics.{List, [], ℕ, eqb, ltb, length, take, pick}
use Rattle.machines.specs.programs.Numbers.{number_in, no_number, at_most}
use Rattle.machines.specs.Machines.{Request, Count, Argument, Open, Read, Write, Say, Fail, Stop, Answer, Number, Bytes, End, Done, Failed, Machine, is_number}
use Rattle.machine_merge.specs.{Buffered.most_counted, Buffered.buffered_size, Buffered.wanted, Buffered.keeping, Printed.Printed, Printed.printed}

-- The bytes of the longest word that the system hands to a program, and of the longest name of a file.
abbrev pub longest_word : ℕ
longest_word = 131072

abbrev pub longest_name : ℕ
longest_name = 4096

-- "usage: merge FIRST SECOND SET > TRACE" and a line feed, "merge: ", "merge: the first file's name", "merge: the second file's name", "merge: standard output", byte by byte.
abbrev pub usage : List ℕ
usage = 117 ∷ 115 ∷ 97 ∷ 103 ∷ 101 ∷ 58 ∷ 32 ∷ 109 ∷ 101 ∷ 114 ∷ 103 ∷ 101 ∷ 32 ∷ 70 ∷ 73 ∷ 82 ∷ 83 ∷ 84 ∷ 32 ∷ 83 ∷ 69 ∷ 67 ∷ 79 ∷ 78 ∷ 68 ∷ 32 ∷ 83 ∷ 69 ∷ 84 ∷ 32 ∷ 62 ∷ 32 ∷ 84 ∷ 82 ∷ 65 ∷ 67 ∷ 69 ∷ 10 ∷ []

abbrev pub prefix : List ℕ
prefix = 109 ∷ 101 ∷ 114 ∷ 103 ∷ 101 ∷ 58 ∷ 32 ∷ []

abbrev pub first_name : List ℕ
first_name = 109 ∷ 101 ∷ 114 ∷ 103 ∷ 101 ∷ 58 ∷ 32 ∷ 116 ∷ 104 ∷ 101 ∷ 32 ∷ 102 ∷ 105 ∷ 114 ∷ 115 ∷ 116 ∷ 32 ∷ 102 ∷ 105 ∷ 108 ∷ 101 ∷ 39 ∷ 115 ∷ 32 ∷ 110 ∷ 97 ∷ 109 ∷ 101 ∷ []

abbrev pub second_name : List ℕ
second_name = 109 ∷ 101 ∷ 114 ∷ 103 ∷ 101 ∷ 58 ∷ 32 ∷ 116 ∷ 104 ∷ 101 ∷ 32 ∷ 115 ∷ 101 ∷ 99 ∷ 111 ∷ 110 ∷ 100 ∷ 32 ∷ 102 ∷ 105 ∷ 108 ∷ 101 ∷ 39 ∷ 115 ∷ 32 ∷ 110 ∷ 97 ∷ 109 ∷ 101 ∷ []

abbrev pub output_name : List ℕ
output_name = 109 ∷ 101 ∷ 114 ∷ 103 ∷ 101 ∷ 58 ∷ 32 ∷ 115 ∷ 116 ∷ 97 ∷ 110 ∷ 100 ∷ 97 ∷ 114 ∷ 100 ∷ 32 ∷ 111 ∷ 117 ∷ 116 ∷ 112 ∷ 117 ∷ 116 ∷ []

-- Which half is next: the first, with the set; or the second, with what is held of the first as well.
pub data Stage : Type 0 where
  FirstHalf : ℕ → Stage
  SecondHalf : ℕ → List ℕ → Stage

pub data State : Type 0 where
  -- How many words was the program started with?
  Counting : State
  -- Which set do they name?
  Setting : State
  -- What is the file's name?
  Naming : Stage → State
  Opening : Stage → List ℕ → State
  -- Its name, the bytes that are kept of it, and how many were read.
  Reading : Stage → List ℕ → List ℕ → ℕ → State
  -- The merged trace is written, or a line is reported, or what failed.
  Writing : List ℕ → State
  Reporting : List ℕ → State
  Failing : List ℕ → State
  Stopped : State

-- The files are words 1 and 2.
unfoldable pub word_of_def : Stage → ℕ
word_of_def (FirstHalf set) = 1
word_of_def (SecondHalf set first) = 2

unfoldable pub ask : State → Request
ask Counting = Count
ask Setting = Argument 3 longest_word
ask (Naming stage) = Argument (word_of_def stage) longest_name
ask (Opening stage name) = Open name
ask (Reading stage name kept total) = Read (wanted total)
ask (Writing trace) = Write trace
ask (Reporting line) = Say line
ask (Failing name) = Fail name
ask Stopped = Stop

-- What is reported of a file that has no name that the system takes,
unfoldable pub no_name_text : Stage → List ℕ
no_name_text (FirstHalf set) = first_name
no_name_text (SecondHalf set first) = second_name

-- and of one that cannot be opened or read.
unfoldable pub file_text : Stage → List ℕ → List ℕ
file_text stage [] = no_name_text stage
file_text stage (b ∷ name) = prefix ++ (b ∷ name)

-- The merged trace, or why there is none.
unfoldable pub shown : List ℕ → List ℕ → State
shown trace [] = Writing trace
shown trace (b ∷ line) = Reporting (b ∷ line)

unfoldable pub showing : Printed → State
showing p = shown p.trace p.refusal

-- A half has ended, and this is held of it.
unfoldable pub half_read : Stage → List ℕ → State
half_read (FirstHalf set) half = Naming (SecondHalf set half)
half_read (SecondHalf set first) half = showing (printed first half set)

abbrev pub ended : Stage → List ℕ → ℕ → State
ended stage kept total = half_read stage (take (buffered_size total) kept)

unfoldable pub onward : Stage → List ℕ → List ℕ → ℕ → State
onward stage name kept total = pick (ltb total most_counted) (Reading stage name kept total) (ended stage kept total)

unfoldable pub after_count : Answer → State
after_count a = pick (is_number a 4) Setting (Reporting usage)

-- The third word is a decimal number, of any length.
unfoldable pub after_set : Answer → State
after_set (Bytes word) = pick (eqb (number_in word) no_number) (Reporting usage) (Naming (FirstHalf (at_most (number_in word))))
after_set (Number n) = Reporting usage
after_set End = Reporting usage
after_set Done = Reporting usage
after_set Failed = Reporting usage

unfoldable pub after_name : Stage → Answer → State
after_name stage (Bytes name) = Opening stage name
after_name stage (Number n) = Failing (no_name_text stage)
after_name stage End = Failing (no_name_text stage)
after_name stage Done = Failing (no_name_text stage)
after_name stage Failed = Failing (no_name_text stage)

unfoldable pub after_open_of : Stage → List ℕ → Answer → State
after_open_of stage name Done = Reading stage name [] 0
after_open_of stage name (Number n) = Failing (file_text stage name)
after_open_of stage name (Bytes l) = Failing (file_text stage name)
after_open_of stage name End = Failing (file_text stage name)
after_open_of stage name Failed = Failing (file_text stage name)

unfoldable pub after_read_of : Stage → List ℕ → List ℕ → ℕ → Answer → State
after_read_of stage name kept total (Bytes more) = onward stage name (keeping kept more) (total + length more)
after_read_of stage name kept total End = ended stage kept total
after_read_of stage name kept total (Number n) = Failing (file_text stage name)
after_read_of stage name kept total Done = Failing (file_text stage name)
after_read_of stage name kept total Failed = Failing (file_text stage name)

unfoldable pub after_write_of : Answer → State
after_write_of Done = Stopped
after_write_of (Number n) = Failing output_name
after_write_of (Bytes l) = Failing output_name
after_write_of End = Failing output_name
after_write_of Failed = Failing output_name

unfoldable pub next : State → Answer → State
next Counting a = after_count a
next Setting a = after_set a
next (Naming stage) a = after_name stage a
next (Opening stage name) a = after_open_of stage name a
next (Reading stage name kept total) a = after_read_of stage name kept total a
next (Writing trace) a = after_write_of a
next (Reporting line) a = Stopped
next (Failing name) a = Stopped
next Stopped a = Stopped

abbrev pub merging : Machine State
merging = record { first = Counting; ask = ask; next = next }
