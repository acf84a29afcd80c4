-- The forms that requests and answers have in code: numbers and places of lent buffers. The bytes that a program asks for go to a place of its buffer `input`; those
-- that it hands out stand at the front of its buffer `out`.
-- Assumes nothing.
use Rattle.laws.specs.Basics.{Bool, true, false, List, ℕ, zero, suc, eqb, leb, length, take, drop, pick}
use Rattle.std.specs.Prelude.{ℤ, pos, negsuc, min, ◌≡◌, ◌+◌, ◌≤◌}
use Rattle.machines.specs.Machines.{Request, Count, Argument, Open, Read, Write, Say, Fail, Stop, Answer, Number, Bytes, End, Done, Failed, Machine}
use Rattle.machines.specs.declared.{Source.Source, Obeyed.Obeyed}
use Rattle.machines.specs.declared.Request as requests
use Rattle.machines.specs.declared.Request.TheVariants as request
use Rattle.machines.specs.declared.Answer as answers
use Rattle.machines.specs.declared.Answer.TheVariants as answer
use Rattle.machines.specs.declared.heard.Taken as takens
use Rattle.machines.specs.declared.heard.Taken.TheVariants as taken

-- The request that a form stands for, with these bytes in `out`.
unfoldable pub request_of_def : requests.Request → List ℕ → Request
request_of_def request.Count out = Count
request_of_def (request.Argument i at most) out = Argument i most
request_of_def (request.Open size) out = Open (take size out)
request_of_def (request.Read at most) out = Read most
request_of_def (request.Write size) out = Write (take size out)
request_of_def (request.Say size) out = Say (take size out)
request_of_def (request.Fail size) out = Fail (take size out)
request_of_def request.Stop out = Stop

-- The answer that a form stands for, with these bytes in `input`, where the bytes that were asked for are at a place. A count that reaches past the buffer stands for
-- a call that failed.
unfoldable pub answer_of : answers.Answer → ℕ → List ℕ → Answer
answer_of (answer.Number n) at input = Number n
answer_of (answer.Bytes size) at input = pick (leb (at + size) (length input)) (Bytes (take size (drop at input))) Failed
answer_of answer.End at input = End
answer_of answer.Done at input = Done
answer_of answer.Failed at input = Failed

-- Whether there is anything to obey.
unfoldable pub goes_on_of : requests.Request → Bool
goes_on_of request.Count = true
goes_on_of (request.Argument i at most) = true
goes_on_of (request.Open size) = true
goes_on_of (request.Read at most) = true
goes_on_of (request.Write size) = true
goes_on_of (request.Say size) = true
goes_on_of (request.Fail size) = true
goes_on_of request.Stop = false

-- The places of a request lie inside buffers of these lengths.
unfoldable pub Placed : requests.Request → ℕ → ℕ → Type 0
Placed request.Count input out = Unit {0}
Placed (request.Argument i at most) input out = at + most ≤ input
Placed (request.Open size) input out = size ≤ out
Placed (request.Read at most) input out = at + most ≤ input
Placed (request.Write size) input out = size ≤ out
Placed (request.Say size) input out = size ≤ out
Placed (request.Fail size) input out = size ≤ out
Placed request.Stop input out = Unit {0}

-- The buffer before and after a call that may have put bytes at a place: it is as it was around them.
unfoldable pub Around : ℕ → ℕ → List ℕ → List ℕ → Type 0
Around at most before after = (length after ≡ length before) × (take at after ≡ take at before) × (drop (at + most) after ≡ drop (at + most) before)

-- What obeying a request leaves of the buffer `input`.
unfoldable pub Leaves : requests.Request → List ℕ → List ℕ → Type 0
Leaves request.Count before after = after ≡ before
Leaves (request.Argument i at most) before after = Around at most before after
Leaves (request.Open size) before after = after ≡ before
Leaves (request.Read at most) before after = Around at most before after
Leaves (request.Write size) before after = after ≡ before
Leaves (request.Say size) before after = after ≡ before
Leaves (request.Fail size) before after = after ≡ before
Leaves request.Stop before after = after ≡ before

-- The place that the bytes which a request asks for go to.
unfoldable pub GoesTo : requests.Request → ℕ → Type 0
GoesTo request.Count place = Unit {0}
GoesTo (request.Argument i at most) place = at ≡ place
GoesTo (request.Open size) place = Unit {0}
GoesTo (request.Read at most) place = at ≡ place
GoesTo (request.Write size) place = Unit {0}
GoesTo (request.Say size) place = Unit {0}
GoesTo (request.Fail size) place = Unit {0}
GoesTo request.Stop place = Unit {0}

-- A form, with these buffers, is what a machine asks for; the bytes that it asks for will be looked for at a place.
pub record Asks (r : requests.Request) (place : ℕ) (input out : List ℕ) (wanted : Request) : Type 0 where
  pub stands : request_of_def r out ≡ wanted
  pub inside : Placed r (length input) (length out)
  pub there : GoesTo r place

-- What is lent stands for a state of a machine, and a form, with these buffers, is what the machine asks for there.
pub record Stands {S : Type 0} (m : Machine S) (lent : S) (place : ℕ) (input out : List ℕ) (r : requests.Request) (s : S) : Type 0 where
  pub state : lent ≡ s
  pub asks : Asks r place input out (m.ask s)

-- An answer as it is taken, where bytes were asked for: that many of them, the end, or that it failed.
unfoldable pub taken_of : takens.Taken → ℕ → List ℕ → Answer
taken_of (taken.Brought size) at input = Bytes (take size (drop at input))
taken_of taken.Ended at input = End
taken_of taken.Failed at input = Failed

-- No more bytes than were asked for, and at least that many.
unfoldable pub Between : takens.Taken → ℕ → ℕ → Type 0
Between (taken.Brought size) least most = (least ≤ size) × (size ≤ most)
Between taken.Ended least most = Unit {0}
Between taken.Failed least most = Unit {0}

-- What the system's own numbers come to. A read: below 0 it failed, and no byte is the end of the input.
unfoldable pub read_answer : ℤ → ℕ → answers.Answer
read_answer (pos k) size = pick (eqb size 0) answer.End (answer.Bytes size)
read_answer (negsuc k) size = answer.Failed

-- The count of bytes that a call brought, by the number that it returned: none below 0, and no more than there is room for.
abbrev pub clamp_len : ℤ → ℕ → ℕ
clamp_len (pos k) most = min k most
clamp_len (negsuc k) most = 0

-- A word: an error number of 0 says that all of it is there.
unfoldable pub word_answer : ℤ → ℕ → answers.Answer
word_answer (pos zero) size = answer.Bytes size
word_answer (pos (suc k)) size = answer.Failed
word_answer (negsuc k) size = answer.Failed

-- A text: it is written or not.
abbrev pub done_answer : Bool → answers.Answer
done_answer done = pick done answer.Done answer.Failed

-- Until a file is opened, bytes are read from descriptor 0.
abbrev pub standard_input : Source
standard_input = record { 0 = pos 0 }

-- An answer, with the source that bytes are read from then on.
abbrev pub from : Source → answers.Answer → Obeyed
from source a = record { answer = a; source = source }

-- A file: below 0 it is not open, and the source is as it was.
unfoldable pub open_answer : ℤ → Source → Obeyed
open_answer (pos k) source = from (record { 0 = pos k }) answer.Done
open_answer (negsuc k) source = from source answer.Failed

-- What may come of a request: what some numbers of the system's come to, and nothing else. Only a file that is opened changes the source.
unfoldable pub Comes : requests.Request → Source → Obeyed → Type 0
Comes request.Count source r = (words : ℕ) × (r ≡ from source (answer.Number words))
Comes (request.Argument i at most) source r = (error : ℤ) × (size : ℕ) × (size ≤ most) × (r ≡ from source (word_answer error size))
Comes (request.Open size) source r = (opened : ℤ) × (r ≡ open_answer opened source)
Comes (request.Read at most) source r = (got : ℤ) × (r ≡ from source (read_answer got (clamp_len got most)))
Comes (request.Write size) source r = (done : Bool) × (r ≡ from source (done_answer done))
Comes (request.Say size) source r = r ≡ from source answer.Done
Comes (request.Fail size) source r = r ≡ from source answer.Done
Comes request.Stop source r = r ≡ from source answer.Done

-- An answer that may come of a request that opens no file.
abbrev pub Fits : requests.Request → answers.Answer → Type 0
Fits r a = (source : Source) → Comes r source (from source a)

-- A request was obeyed.
pub record Obeys (r : requests.Request) (source : Source) (before after : List ℕ) (came : Obeyed) : Type 0 where
  pub leaves : Leaves r before after
  pub comes : Comes r source came
