-- A program as a machine: it asks the system for one thing at a time, and goes on by what the system answers. What it asked for and what it was answered are lists, so
-- that a theorem about a program is one over every list of answers.
-- Assumes nothing.
use Rattle.std.specs.Prelude.{◌≡◌, ◌&&◌, ◌∷◌, ◌++◌, ◌<◌}
use Rattle.laws.specs.Basics.{Bool, true, false, List, [], ℕ, eqb, leb, length, pick}
use Rattle.laws.specs.Tests.{some_of}

-- What a program asks of the system.
pub data Request : Type 0 where
  -- How many words the program was started with, its own name among them.
  Count : Request
  -- Word i, the name being word 0, of at most that many bytes.
  Argument : ℕ → ℕ → Request
  -- From now on the input is the file of this name. Until then it is standard input.
  Open : List ℕ → Request
  -- The next bytes of the input, at most that many.
  Read : ℕ → Request
  -- All of these bytes, to standard output.
  Write : List ℕ → Request
  -- All of these bytes, to standard error.
  Say : List ℕ → Request
  -- A line on standard error: these bytes, a colon, and the system's own text about the call that failed.
  Fail : List ℕ → Request
  -- Nothing more: the program ends.
  Stop : Request

-- What the system answers.
pub data Answer : Type 0 where
  Number : ℕ → Answer
  Bytes : List ℕ → Answer
  -- The input has no more bytes.
  End : Answer
  Done : Answer
  Failed : Answer

-- How an answer is taken. One that does not fit what was asked for counts as `Failed`: to `Count` fits a number;
unfoldable pub heard_count : Answer → Answer
heard_count (Number n) = Number n
heard_count (Bytes l) = Failed
heard_count End = Failed
heard_count Done = Failed
heard_count Failed = Failed

-- to `Argument`, a word that is no longer than was asked for;
unfoldable pub heard_word : ℕ → Answer → Answer
heard_word most (Number n) = Failed
heard_word most (Bytes l) = pick (leb (length l) most) (Bytes l) Failed
heard_word most End = Failed
heard_word most Done = Failed
heard_word most Failed = Failed

-- to `Read`, one byte or more, no more than were asked for, or the end;
unfoldable pub heard_read : ℕ → Answer → Answer
heard_read most (Number n) = Failed
heard_read most (Bytes l) = pick (leb 1 (length l) && leb (length l) most) (Bytes l) Failed
heard_read most End = End
heard_read most Done = Failed
heard_read most Failed = Failed

-- to `Open` and `Write`, that it is done.
unfoldable pub heard_done : Answer → Answer
heard_done (Number n) = Failed
heard_done (Bytes l) = Failed
heard_done End = Failed
heard_done Done = Done
heard_done Failed = Failed

-- Whatever comes of words on standard error, they count as printed.
unfoldable pub heard : Request → Answer → Answer
heard Count a = heard_count a
heard (Argument i most) a = heard_word most a
heard (Open path) a = heard_done a
heard (Read most) a = heard_read most a
heard (Write text) a = heard_done a
heard (Say text) a = Done
heard (Fail text) a = Done
heard Stop a = Failed

-- Whether an answer is this number.
unfoldable pub is_number : Answer → ℕ → Bool
is_number (Number n) k = eqb n k
is_number (Bytes l) k = false
is_number End k = false
is_number Done k = false
is_number Failed k = false

-- A machine: the state that it begins in, what it asks for in each state, and the state that an answer leads to.
pub record Machine (S : Type 0) : Type 0 where
  pub first : S
  pub ask : S → Request
  pub next : S → Answer → S

-- One request with its answer, as it is taken.
pub record Exchange : Type 0 where
  pub request : Request
  pub answer : Answer

module _ {S : Type 0} (m : Machine S) where
  -- The state that an answer leads to.
  unfoldable pub stepped : S → Answer → S
  stepped s a = m.next s (heard (m.ask s) a)

  abbrev pub exchanged : S → Answer → Exchange
  exchanged s a = record { request = m.ask s; answer = heard (m.ask s) a }

  -- The state after a list of answers, oldest first.
  unfoldable pub state_from : S → List Answer → S
  state_from s [] = s
  state_from s (a ∷ answers) = state_from (stepped s a) answers

  abbrev pub state_after : List Answer → S
  state_after answers = state_from m.first answers

  -- All that was asked and answered.
  unfoldable pub exchanges_from : S → List Answer → List Exchange
  exchanges_from s [] = []
  exchanges_from s (a ∷ answers) = exchanged s a ∷ exchanges_from (stepped s a) answers

  abbrev pub exchanges : List Answer → List Exchange
  exchanges answers = exchanges_from m.first answers

  -- All that was asked for, with the request that is not answered yet.
  unfoldable pub asked_from : S → List Answer → List Request
  asked_from s [] = m.ask s ∷ []
  asked_from s (a ∷ answers) = m.ask s ∷ asked_from (stepped s a) answers

  abbrev pub asked : List Answer → List Request
  asked answers = asked_from m.first answers

-- The bytes that a request has written to standard output;
unfoldable pub written : Request → List ℕ
written Count = []
written (Argument i most) = []
written (Open path) = []
written (Read most) = []
written (Write text) = text
written (Say text) = []
written (Fail text) = []
written Stop = []

-- those that it has printed on standard error, without the system's own text;
unfoldable pub error_text : Request → List ℕ
error_text Count = []
error_text (Argument i most) = []
error_text (Open path) = []
error_text (Read most) = []
error_text (Write text) = []
error_text (Say text) = text
error_text (Fail text) = text
error_text Stop = []

-- and of several requests, one after the other.
unfoldable pub written_of : List Request → List ℕ
written_of [] = []
written_of (r ∷ requests) = written r ++ written_of requests

unfoldable pub error_text_of : List Request → List ℕ
error_text_of [] = []
error_text_of (r ∷ requests) = error_text r ++ error_text_of requests

-- The bytes that an answer brings,
unfoldable pub brought : Answer → List ℕ
brought (Number n) = []
brought (Bytes l) = l
brought End = []
brought Done = []
brought Failed = []

-- and those that were read of the input.
unfoldable pub read_by : Request → Answer → List ℕ
read_by Count a = []
read_by (Argument i most) a = []
read_by (Open path) a = []
read_by (Read most) a = brought a
read_by (Write text) a = []
read_by (Say text) a = []
read_by (Fail text) a = []
read_by Stop a = []

unfoldable pub read_of : List Exchange → List ℕ
read_of [] = []
read_of (e ∷ exchanges) = read_by e.request e.answer ++ read_of exchanges

-- What each exchange comes to, one after the other.
unfoldable pub gathered : (Request → Answer → List ℕ) → List Exchange → List ℕ
gathered by [] = []
gathered by (e ∷ exchanges) = by e.request e.answer ++ gathered by exchanges

-- Whether the input has ended.
unfoldable pub is_end : Answer → Bool
is_end (Number n) = false
is_end (Bytes l) = false
is_end End = true
is_end Done = false
is_end Failed = false

unfoldable pub end_met : List Exchange → Bool
end_met exchanges = some_of (λ (e : Exchange). is_end e.answer) exchanges

unfoldable pub failed : List ℕ → Answer → List ℕ
failed name (Number n) = []
failed name (Bytes l) = []
failed name End = []
failed name Done = []
failed name Failed = name

-- What failed, by its name: the input, of a read that failed, and the output, of a write.
unfoldable pub failure : List ℕ → List ℕ → Request → Answer → List ℕ
failure input output Count a = []
failure input output (Argument i most) a = []
failure input output (Open path) a = []
failure input output (Read most) a = failed input a
failure input output (Write text) a = failed output a
failure input output (Say text) a = []
failure input output (Fail text) a = []
failure input output Stop a = []

-- The requests that were answered.
unfoldable pub requests_of : List Exchange → List Request
requests_of [] = []
requests_of (e ∷ exchanges) = e.request ∷ requests_of exchanges

-- Some list of answers leads to this state.
unfoldable pub Reached : {S : Type 0} → Machine S → S → Type 0
Reached m s = (answers : List Answer) × (s ≡ state_after m answers)

-- The machine has come to its end: it asks for nothing more.
unfoldable pub Ended : {S : Type 0} → Machine S → S → Type 0
Ended m s = Reached m s × (m.ask s ≡ Stop)

-- It ends after finitely many answers, whatever they are: a number falls with each of them, and a machine that has stopped stays so.
pub record Ends {S : Type 0} (m : Machine S) : Type 0 where
  pub left : S → ℕ
  pub falls : (s : S) (a : Answer) → (m.ask s ≡ Stop → ⊥) → left (stepped m s a) < left s
  pub stays : (s : S) (a : Answer) → m.ask s ≡ Stop → m.ask (stepped m s a) ≡ Stop
