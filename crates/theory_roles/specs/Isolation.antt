-- Document 02, Note 13: on what of a run the answers to an owner depend. "these and line members are the named leaks".
-- Assumes nothing.
use Rattle.std.specs.Prelude.{◌≡◌, ◌^◌, Err, Ok}
use Rattle.laws.specs.Basics.{true, List, ℕ, ltb, leb, length, pick}
use Prim.{tt}
use Rattle.model.specs.Shapes.{LineAnswer}
use Rattle.model.specs.declared.Run.{Run}
use Rattle.model.specs.declared.Refusal.TheVariants.{UnsoundState, ListTooShort, NoSuchFailedProcess, TooManyUnderWay, MessageNumbersUsed, BlocksUsed}
use Rattle.model.specs.{Words.process, Steps.found, Sound.sound}
use Rattle.whole_runs.specs.Outcomes.{send_report}
use Rattle.theory_roles.specs.{declared.Role.TheVariants.JobOwner, declared.Caller.Caller, Runs.ConsoleReached}
use Rattle.theory_roles.specs.Console.{owns, console_checkpoint, console_send, console_deliver, console_lose, console_line, console_list}

abbrev pub owner : ℕ → Caller
owner owned = record { role = JobOwner; owned = owned }

-- Two states that are the same to an owner: n, and "its own processes' vectors, pins and kept checkpoints".
pub record SameToOwner (owned : ℕ) (s t : Run) : Type 0 where
  pub count : s.count ≡ t.count
  pub vectors : (p : ℕ) → owns owned s.count p ≡ true → (process s p).vector ≡ (process t p).vector
  pub pins : (p : ℕ) → owns owned s.count p ≡ true → (process s p).pins ≡ (process t p).pins
  pub kept : (p : ℕ) → owns owned s.count p ≡ true → (process s p).kept ≡ (process t p).kept

-- The sent marks of its own processes: what they did since their last checkpoints, which no list shows.
abbrev pub SameMarks : ℕ → Run → Run → Type 0
SameMarks owned s t = (p : ℕ) → owns owned s.count p ≡ true → (process s p).mark ≡ (process t p).mark

-- "The list shown to an owner depends on its own processes' vectors, pins and kept checkpoints and on nothing else in the run but n."
unfoldable pub ListIsOwn : Type 0
ListIsOwn = (owned : ℕ) (s t : Run) → ConsoleReached s → ConsoleReached t → SameToOwner owned s t → (lent : List ℕ)
    → ((console_list (owner owned) s lent).answer ≡ (console_list (owner owned) t lent).answer)
    × ((console_list (owner owned) s lent).deleted ≡ (console_list (owner owned) t lent).deleted)

-- "a stored checkpoint may meet 16": where it does not, an owner's checkpoint answers and hands out the same.
unfoldable pub CheckpointIsOwn : Type 0
CheckpointIsOwn = (owned : ℕ) (s t : Run) → ConsoleReached s → ConsoleReached t → SameToOwner owned s t → (i : ℕ) (lent : List ℕ)
    → ((console_checkpoint (owner owned) s i lent).answer ≡ Err BlocksUsed → ⊥)
    → ((console_checkpoint (owner owned) t i lent).answer ≡ Err BlocksUsed → ⊥)
    → ((console_checkpoint (owner owned) s i lent).answer ≡ (console_checkpoint (owner owned) t i lent).answer)
    × ((console_checkpoint (owner owned) s i lent).deleted ≡ (console_checkpoint (owner owned) t i lent).deleted)

-- "deliveries and losses show what was sent to its processes": of the same message they show the same.
unfoldable pub DeliveryIsOwn : Type 0
DeliveryIsOwn = (owned : ℕ) (s t : Run) → ConsoleReached s → ConsoleReached t → SameToOwner owned s t → SameMarks owned s t → (m : ℕ) (lent : List ℕ)
    → found s m ≡ found t m
    → ((console_deliver (owner owned) s m lent).answer ≡ Err BlocksUsed → ⊥)
    → ((console_deliver (owner owned) t m lent).answer ≡ Err BlocksUsed → ⊥)
    → ((console_deliver (owner owned) s m lent).answer ≡ (console_deliver (owner owned) t m lent).answer)
    × ((console_deliver (owner owned) s m lent).rose ≡ (console_deliver (owner owned) t m lent).rose)
    × ((console_deliver (owner owned) s m lent).deleted ≡ (console_deliver (owner owned) t m lent).deleted)

unfoldable pub LossIsOwn : Type 0
LossIsOwn = (owned : ℕ) (s t : Run) → ConsoleReached s → ConsoleReached t → SameToOwner owned s t → (m : ℕ) → found s m ≡ found t m
    → (console_lose (owner owned) s m).answer ≡ (console_lose (owner owned) t m).answer

-- "A send may still meet 9 or 10 and shows a run-wide number": where it meets neither, it is refused alike, or accepted in both.
unfoldable pub SendIsOwn : Type 0
SendIsOwn = (owned : ℕ) (s t : Run) → ConsoleReached s → ConsoleReached t → SameToOwner owned s t → (i j : ℕ)
    → ((console_send (owner owned) s i j).answer ≡ Err TooManyUnderWay → ⊥)
    → ((console_send (owner owned) t i j).answer ≡ Err TooManyUnderWay → ⊥)
    → ((console_send (owner owned) s i j).answer ≡ Err MessageNumbersUsed → ⊥)
    → ((console_send (owner owned) t i j).answer ≡ Err MessageNumbersUsed → ⊥)
    → (send_report (console_send (owner owned) s i j).answer).refused ≡ (send_report (console_send (owner owned) t i j).answer).refused

-- "see its own members of a line for a failed set": the members are a named leak, the answer is no leak. It goes by n, the failed set and the length of the lent
-- list alone: 3 for a list "below n", 7 for a set that "has a bit at n or above".
unfoldable pub line_answer_by : ℕ → ℕ → ℕ → LineAnswer
line_answer_by n F room = pick (ltb room n)
    (Err ListTooShort)
    (pick (leb (2 ^ n) F) (Err NoSuchFailedProcess) (Ok tt))

-- So 2 is not met on a state that console calls reached.
unfoldable pub LineAnswerIsOwn : Type 0
LineAnswerIsOwn = (owned : ℕ) (s : Run) → ConsoleReached s → (F : ℕ) (lent : List ℕ) → (console_line (owner owned) s F lent).answer ≡ line_answer_by s.count F (length lent)

-- On any two sound states with one n, reached or not, it is the same too, but for 2, "where some process has no state the line rule accepts".
unfoldable pub SoundLineAnswers : Type 0
SoundLineAnswers = (owned : ℕ) (s t : Run) → sound s ≡ true → sound t ≡ true → s.count ≡ t.count → (F : ℕ) (lent : List ℕ)
    → ((console_line (owner owned) s F lent).answer ≡ Err UnsoundState → ⊥)
    → ((console_line (owner owned) t F lent).answer ≡ Err UnsoundState → ⊥)
    → (console_line (owner owned) s F lent).answer ≡ (console_line (owner owned) t F lent).answer
