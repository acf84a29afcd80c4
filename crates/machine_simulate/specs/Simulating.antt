-- The program `simulate` as a machine: it asks for its four words, writes what they ask for, a table row by row, and stops.
-- Assumes nothing.
use Rattle.std.specs.Prelude.{◌≡◌, ◌&&◌, ◌∷◌, ◌++◌, ◌+◌, ◌<◌}
use Rattle.laws.specs.Basics.{Bool, false, List, [], ℕ, eqb, ltb, length, pick}
use Rattle.laws.specs.Tests.{some_of}
use Rattle.model.specs.declared.Refusal.TheVariants.{TrialOutsideRange}
use Rattle.machines.specs.programs.Texts.{refused_text}
use Rattle.machines.specs.Machines.{Request, Count, Argument, Open, Read, Write, Say, Fail, Stop, Answer, Number, Bytes, End, Done, Failed, Machine, Exchange, heard, is_number, brought, stepped, asked, exchanges, state_after, written_of, error_text_of, gathered, failed}
use Rattle.machine_simulate.specs.declared.arguments.Numbers.{Numbers}
use Rattle.machine_simulate.specs.Arguments.{is_wrong_of, is_refused, no_numbers, with_word, numbers_in}
use Rattle.machine_simulate.specs.Text.{head_line, result_text, row_text, trial_of, text_of}

-- "usage: simulate N SPACING STEPS SEED, or simulate N FROM-TO STEPS SEED" and a line feed, and "simulate: standard output", byte by byte.
abbrev pub usage : List ℕ
usage = 117 ∷ 115 ∷ 97 ∷ 103 ∷ 101 ∷ 58 ∷ 32 ∷ 115 ∷ 105 ∷ 109 ∷ 117 ∷ 108 ∷ 97 ∷ 116 ∷ 101 ∷ 32 ∷ 78 ∷ 32 ∷ 83 ∷ 80 ∷ 65 ∷ 67 ∷ 73 ∷ 78 ∷ 71 ∷ 32 ∷ 83 ∷ 84 ∷ 69 ∷ 80 ∷ 83 ∷ 32 ∷ 83 ∷ 69 ∷ 69 ∷ 68 ∷ 44 ∷ 32 ∷ 111 ∷ 114 ∷ 32 ∷ 115 ∷ 105 ∷ 109 ∷ 117 ∷ 108 ∷ 97 ∷ 116 ∷ 101 ∷ 32 ∷ 78 ∷ 32 ∷ 70 ∷ 82 ∷ 79 ∷ 77 ∷ 45 ∷ 84 ∷ 79 ∷ 32 ∷ 83 ∷ 84 ∷ 69 ∷ 80 ∷ 83 ∷ 32 ∷ 83 ∷ 69 ∷ 69 ∷ 68 ∷ 10 ∷ []

abbrev pub output_name : List ℕ
output_name = 115 ∷ 105 ∷ 109 ∷ 117 ∷ 108 ∷ 97 ∷ 116 ∷ 101 ∷ 58 ∷ 32 ∷ 115 ∷ 116 ∷ 97 ∷ 110 ∷ 100 ∷ 97 ∷ 114 ∷ 100 ∷ 32 ∷ 111 ∷ 117 ∷ 116 ∷ 112 ∷ 117 ∷ 116 ∷ []

-- The longest word that is looked at.
abbrev pub longest_word : ℕ
longest_word = 65536

pub data State : Type 0 where
  -- How many words was the program started with?
  Counting : State
  -- Which word is this, 1 to 4? The numbers of the words before it.
  Asking : ℕ → Numbers → State
  -- The last text that is to be written.
  Printing : List ℕ → State
  -- A line of a table that is to be written, and the numbers of the rows after it.
  Tabling : List ℕ → Numbers → State
  -- How the program is used.
  Reporting : List ℕ → State
  -- What failed.
  Failing : List ℕ → State
  Stopped : State

unfoldable pub ask : State → Request
ask Counting = Count
ask (Asking i k) = Argument i longest_word
ask (Printing text) = Write text
ask (Tabling text k) = Write text
ask (Reporting text) = Say text
ask (Failing name) = Fail name
ask Stopped = Stop

-- A table is refused, or begins with its first line.
unfoldable pub tabled : Numbers → State
tabled k = pick (is_refused k.n k.spacings.from k.spacings.to k.steps) (Printing (refused_text TrialOutsideRange)) (Tabling head_line k)

-- What four numbers ask for: a table, or the figures of one simulation.
unfoldable pub answered : Numbers → State
answered k = pick k.spacings.many (tabled k) (Printing (result_text (trial_of k.n k.spacings.from k.steps k.seed)))

unfoldable pub decided : Numbers → State
decided k = pick (is_wrong_of k.n k.spacings k.steps k.seed) (Reporting usage) (answered k)

-- Program and four words: five.
unfoldable pub after_count : Answer → State
after_count a = pick (is_number a 5) (Asking 1 no_numbers) (Reporting usage)

-- The number of a word takes the place of the word. One that is too long counts as an empty one.
unfoldable pub after_word : ℕ → Numbers → List ℕ → State
after_word i k word = pick (ltb i 4) (Asking (i + 1) (with_word i k word)) (decided (with_word i k word))

-- The row of the spacing that is next, unless it is past the last.
unfoldable pub without_first : Numbers → Numbers
without_first k = record { n = k.n; spacings = record { many = k.spacings.many; from = k.spacings.from + 1; to = k.spacings.to }; steps = k.steps; seed = k.seed }

unfoldable pub next_row_of : Numbers → State
next_row_of k = pick (ltb k.spacings.to k.spacings.from) Stopped (Tabling (row_text k.spacings.from (trial_of k.n k.spacings.from k.steps k.seed)) (without_first k))

-- What is written, or not.
unfoldable pub after_write_of : State → Answer → State
after_write_of s (Number n) = Failing output_name
after_write_of s (Bytes l) = Failing output_name
after_write_of s End = Failing output_name
after_write_of s Done = s
after_write_of s Failed = Failing output_name

unfoldable pub next : State → Answer → State
next Counting a = after_count a
next (Asking i k) a = after_word i k (brought a)
next (Printing text) a = after_write_of Stopped a
next (Tabling text k) a = after_write_of (next_row_of k) a
next (Reporting text) a = Stopped
next (Failing name) a = Stopped
next Stopped a = Stopped

abbrev pub simulating : Machine State
simulating = record { first = Counting; ask = ask; next = next }

-- Word i: the bytes that answered the request for it, and no other.
unfoldable pub word_by : ℕ → Request → Answer → List ℕ
word_by i Count a = []
word_by i (Argument j most) a = pick (eqb j i) (brought a) []
word_by i (Open path) a = []
word_by i (Read most) a = []
word_by i (Write text) a = []
word_by i (Say text) a = []
word_by i (Fail text) a = []
word_by i Stop a = []

abbrev pub word_of_def : ℕ → List Exchange → List ℕ
word_of_def i talk = gathered (word_by i) talk

-- The numbers of the four words.
unfoldable pub numbers_of : List Exchange → Numbers
numbers_of talk = numbers_in (word_of_def 1 talk) (word_of_def 2 talk) (word_of_def 3 talk) (word_of_def 4 talk)

-- The last word was asked for.
unfoldable pub is_last : Request → Bool
is_last Count = false
is_last (Argument i most) = eqb i 4
is_last (Open path) = false
is_last (Read most) = false
is_last (Write text) = false
is_last (Say text) = false
is_last (Fail text) = false
is_last Stop = false

abbrev pub last_asked : List Exchange → Bool
last_asked talk = some_of (λ (e : Exchange). is_last e.request) talk

-- What is to be reported of each exchange: a count that is not five, and a write that failed.
unfoldable pub failure : Request → Answer → List ℕ
failure Count a = pick (is_number a 5) [] usage
failure (Argument i most) a = []
failure (Open path) a = []
failure (Read most) a = []
failure (Write text) a = failed output_name a
failure (Say text) a = []
failure (Fail text) a = []
failure Stop a = []

abbrev pub failures : List Exchange → List ℕ
failures talk = gathered failure talk

-- What is to be reported of the words, once all were asked for.
unfoldable pub wrong_words : Bool → Numbers → List ℕ
wrong_words asked-for k = pick (asked-for && is_wrong_of k.n k.spacings k.steps k.seed) usage []

-- Of every list of answers of the system:
pub record Simulates (answers : List Answer) : Type 0 where
  -- what is asked to be written is the front of the text of the numbers in words 1 to 4,
  pub fronts : (rest : List ℕ) × (written_of (asked simulating answers) ++ rest ≡ text_of (numbers_of (exchanges simulating answers)))
  -- all of it where it has stopped and nothing failed;
  pub whole : ask (state_after simulating answers) ≡ Stop → failures (exchanges simulating answers) ≡ []
      → written_of (asked simulating answers) ≡ text_of (numbers_of (exchanges simulating answers))
  -- the usage is reported where there are not four words or one of them is wrong, what failed is reported, and nothing else;
  pub says : let talk = exchanges simulating answers in error_text_of (asked simulating answers) ≡ wrong_words (last_asked talk) (numbers_of talk) ++ failures talk
  -- and after more than 1,007 answers it has stopped.
  pub stops : 1007 < length answers → ask (state_after simulating answers) ≡ Stop

-- After a write that failed it says so; after that it asks for nothing more.
pub record StopsAfterFailure : Type 0 where
  pub output_fails : (s : State) (text : List ℕ) (a : Answer) → ask s ≡ Write text → heard (Write text) a ≡ Failed → ask (stepped simulating s a) ≡ Fail output_name
  pub stops_after : (s : State) (text : List ℕ) (a : Answer) → ask s ≡ Fail text → ask (stepped simulating s a) ≡ Stop

abbrev pub SimulatesAlways : Type 0
SimulatesAlways = (answers : List Answer) → Simulates answers
