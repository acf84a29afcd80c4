-- What the functions leave that make a call on words and write its line.
-- Assumes nothing.
use Rattle.std.specs.Prelude.{◌≡◌, ◌≤◌, Some}
use Rattle.listing.specs.Lines.{number_said}
use Rattle.laws.specs.Basics.{List, Option, ℕ, length, take}
use Rattle.model.specs.declared.Run.{Run}
use Rattle.whole_runs.specs.Calls.{Reply, Answered}
use Rattle.listing.specs.Summarised.{report_in}
use Rattle.words.specs.Layout.{run_of}
use Rattle.theory_roles.specs.declared.{Caller.Caller, Operation.Operation}
use Rattle.machine_console.specs.declared.{script.Call.Call, calls.Replied.Replied}
use Rattle.library_console.specs.Asked.{claim_of}
use Rattle.machine_console.specs.{Made.made_on, Text.answer_text, Text.call_text}

-- A field has a space and 20 digits at most; what an answer says has no more bytes than this.
abbrev pub longest_field : ℕ
longest_field = 21

abbrev pub longest_answer : ℕ
longest_answer = 11_200

-- No line is longer: there are no more of them than four, 16 entries, and two for each of 256 pairs.
abbrev pub longest_line : ℕ
longest_line = 12_000

-- The number of a role and a set of processes are those of a caller.
abbrev pub Claims : ℕ → ℕ → Caller → Type 0
Claims role owned c = (claim_of role ≡ Some c.role) × (owned ≡ c.owned)

-- The reply that a call handed back, with what it left of the lent lists.
abbrev pub reply_of : Replied → List ℕ → List ℕ → Reply
reply_of r pairs line = record { report = report_in r.summary; rose = r.rose; deleted = pairs; line = line }

-- A call answered so on words, and no line of it reads otherwise.
pub record Replies (o : Operation) (a : Answered) (w' : List ℕ) (r : Replied) (pairs line : List ℕ) : Type 0 where
  pub run : run_of w' ≡ a.run
  pub refused : (number_said r.summary.refused) ≡ a.reply.report.refused
  pub answer : (c : Caller) (n : ℕ) → answer_text o c n (reply_of r pairs line) ≡ answer_text o c n a.reply

-- What is a call or not is made on words, and its line is at the front of a buffer.
pub record Makes (s : Run) (number : ℕ) (c : Option Call) (w' out' : List ℕ) (size : ℕ) : Type 0 where
  pub run : run_of w' ≡ (made_on s c).run
  pub line : take size out' ≡ call_text number s c
  pub inside : size ≤ length out'
