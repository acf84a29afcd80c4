-- The replay program as a machine: what it asks the system for, and where each answer leads.
-- Assumes nothing.
use Rattle.std.specs.Prelude.{◌&&◌, ◌∷◌, ◌++◌, ◌+◌, ◌-◌, ◌*◌}
use Rattle.laws.specs.Basics.{Bool, List, [], Option, None, Some, ℕ, min, eqb, ltb, length, get_or, drop, pick}
use Rattle.laws.specs.Tests.{same}
use Rattle.model.specs.declared.{Run.Run, Refusal.Refusal, Refusal.TheVariants.NoFirstByte}
use Rattle.model.specs.{Words.ones, Refusals.start_refusal, Steps.start_state}
use Rattle.whole_runs.specs.Listing.{most_records, records, refusal_text}
use Rattle.library_replay.specs.Taken.{block_outcome}
use Rattle.machines.specs.Machines.{Request, Count, Argument, Read, Write, Fail, Stop, Answer, Number, Bytes, End, Done, Failed, Machine, brought, is_number}

-- Where a replay stands between two records: whether it goes on after a refusal, how many records were taken, the state after them, and the bytes that were read and
-- belong to none of them.
pub record Between : Type 0 where
  pub all : Bool
  pub done : ℕ
  pub run : Run
  pub buffered : List ℕ

pub data State : Type 0 where
  starting : State
  -- Whether the program was started with one argument.
  counted : Bool → State
  -- Whether it is started to go on after a refusal.
  opening : Bool → State
  reading : Between → State
  -- The lines of the records taken last, after which there may be more.
  printing : Between → List ℕ → State
  -- The last lines.
  ending : List ℕ → State
  -- What is reported of a failure.
  failing : List ℕ → State
  stopped : State

-- "all", "replay: standard input" and "replay: standard output" in ASCII.
abbrev pub all_word : List ℕ
all_word = 97 ∷ 108 ∷ 108 ∷ []

abbrev pub replay_text : List ℕ → List ℕ
replay_text l = 114 ∷ 101 ∷ 112 ∷ 108 ∷ 97 ∷ 121 ∷ 58 ∷ 32 ∷ 115 ∷ 116 ∷ 97 ∷ 110 ∷ 100 ∷ 97 ∷ 114 ∷ 100 ∷ 32 ∷ l

abbrev pub input_text : List ℕ
input_text = replay_text (105 ∷ 110 ∷ 112 ∷ 117 ∷ 116 ∷ [])

abbrev pub output_text : List ℕ
output_text = replay_text (111 ∷ 117 ∷ 116 ∷ 112 ∷ 117 ∷ 116 ∷ [])

-- The longest word that the argument is compared as; a longer one is not "all".
abbrev pub longest_word : ℕ
longest_word = 4

-- Reads as much as fits into a buffer of that many bytes, and nothing past the last record that a replay takes.
unfoldable pub most_to_read : ℕ → Between → ℕ
most_to_read size b = min size (4 * (most_records - b.done)) - length b.buffered

unfoldable pub asks : ℕ → State → Request
asks size starting = Count
asks size (counted one) = Argument 1 longest_word
asks size (opening all) = Read 1
asks size (reading b) = Read (most_to_read size b)
asks size (printing b lines) = Write lines
asks size (ending lines) = Write lines
asks size (failing text) = Fail text
asks size stopped = Stop

-- The records that were read are taken, as many as have room for their lines, which are written before more are taken or read. "The replay program now stops after
-- printing the first refusal", unless it goes on; it "ends after record 1,000,000,000".
unfoldable pub taking : Between → ℕ → List ℕ → Bool → Run → State
taking b taken lines going run =
    pick (eqb taken 0) (reading b)
    (pick (going && ltb (b.done + taken) most_records)
    (printing (record { all = b.all; done = b.done + taken; run = run; buffered = drop (4 * taken) b.buffered }) lines)
    (ending lines))

unfoldable pub onward : ℕ → Between → State
onward room b = let o = block_outcome b.all b.done b.run b.buffered room in taking b o.taken o.lines o.going o.run

-- "The first byte is n." "A bad first byte prints record number 0 and the refusal and ends".
unfoldable pub begun : Bool → ℕ → Option Refusal → State
begun all n None = reading (record { all = all; done = 0; run = start_state n ones; buffered = [] })
begun all n (Some why) = ending (refusal_text 0 why)

unfoldable pub opened : Bool → Answer → State
opened all (Bytes l) = let n = get_or l 0 0 in begun all n (start_refusal n ones)
opened all End = ending (refusal_text 0 NoFirstByte)
opened all (Number k) = failing input_text
opened all Done = failing input_text
opened all Failed = failing input_text

-- At the end "13 prints under the next record number", if bytes are left over.
unfoldable pub filled : ℕ → Between → Answer → State
filled room b (Bytes l) = onward room (record { all = b.all; done = b.done; run = b.run; buffered = b.buffered ++ l })
filled room b End = ending (records b.all b.done b.run b.buffered)
filled room b (Number k) = failing input_text
filled room b Done = failing input_text
filled room b Failed = failing input_text

-- What could not be written is reported, and that is the end.
unfoldable pub wrote : State → Answer → State
wrote then Done = then
wrote then (Number k) = failing output_text
wrote then (Bytes l) = failing output_text
wrote then End = failing output_text
wrote then Failed = failing output_text

-- Note 11: "start it with the argument `all` .. Any other argument, or more than one, counts as none." The words are the program's own name and one more.
unfoldable pub next : ℕ → State → Answer → State
next room starting a = counted (is_number a 2)
next room (counted one) a = opening (one && same (brought a) all_word)
next room (opening all) a = opened all a
next room (reading b) a = filled room b a
next room (printing b lines) a = wrote (onward room b) a
next room (ending lines) a = wrote stopped a
next room (failing text) a = stopped
next room stopped a = stopped

-- With a buffer of `size` bytes for what is read, and one of `room` bytes for lines.
abbrev pub replaying : ℕ → ℕ → Machine State
replaying size room = record { first = starting; ask = asks size; next = next room }
