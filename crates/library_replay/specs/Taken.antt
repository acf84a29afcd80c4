-- A block of records, each of four bytes: how many of them are taken, and what they come to by whole_runs's specs/Listing, on any state, sound or not.
-- Assumes nothing.
use Rattle.std.specs.Prelude.{◌≡◌, ◌&&◌, ◌∷◌, ◌+◌, ◌-◌, ◌*◌, ◌≤◌, ◌<◌}
use Rattle.laws.specs.Basics.{Bool, true, List, [], ℕ, suc, ltb, leb, length, take, pick}
use Rattle.model.specs.declared.Run.{Run}
use Rattle.model.specs.Trace.{decoded}
use Rattle.whole_runs.specs.Listing.{perform, line_text, most_records, goes_on_of, records, goes_on_after_all, state_after_records}
use Rattle.trace.specs.Answers.{record_at}
use Rattle.listing.specs.Lines.{longest_line}

-- "The program ends after record 1,000,000,000", and a record is taken only where the longest line fits into the room that is left for lines.
unfoldable pub may_take : ℕ → ℕ → Bool
may_take done room = ltb done most_records && leb longest_line room

-- How many records of a block are taken, where `done` were taken before it and there is that much room for their lines: one more as long as a whole one is left, it may
-- be taken, and the replay goes on. Left-over bytes are no record.
unfoldable pub taken_of : Bool → ℕ → Run → List ℕ → ℕ → ℕ
taken_of all done s [] room = 0
taken_of all done s (a ∷ []) room = 0
taken_of all done s (a ∷ b ∷ []) room = 0
taken_of all done s (a ∷ b ∷ c ∷ []) room = 0
taken_of all done s (a ∷ b ∷ c ∷ d ∷ l) room =
    let o = perform s (decoded (a ∷ b ∷ c ∷ d ∷ [])) in
    let left = room - length (line_text (done + 1) o.reply) in
    let rest = pick (goes_on_of all o.reply.report.refused) (taken_of all (done + 1) o.run l left) 0 in
    pick (may_take done room) (suc rest) 0

-- What a replay of a block comes to: how many records are taken, their lines, whether the replay goes on after them, and the state after them.
pub record BlockOutcome : Type 0 where
  pub taken : ℕ
  pub lines : List ℕ
  pub going : Bool
  pub run : Run

-- The outcome of that many records.
unfoldable pub outcome_of : Bool → ℕ → Run → List ℕ → ℕ → BlockOutcome
outcome_of all done s block taken =
    let part = take (4 * taken) block in
    record { taken = taken; lines = records all done s part; going = goes_on_after_all all s part; run = state_after_records s part }

unfoldable pub block_outcome : Bool → ℕ → Run → List ℕ → ℕ → BlockOutcome
block_outcome all done s block room = outcome_of all done s block (taken_of all done s block room)

-- Whether a whole record is left of a block after those taken, and which: nothing if none is.
unfoldable pub is_left_of : List ℕ → ℕ → Bool
is_left_of block taken = leb (4 * taken + 4) (length block)

unfoldable pub record_in_of : List ℕ → ℕ → List ℕ
record_in_of block taken = record_at block (4 * taken)

-- Whether one more record of a block is taken after those taken.
unfoldable pub takes_next_of : Bool → ℕ → List ℕ → ℕ → ℕ → Bool
takes_next_of going done block taken room = going && may_take (done + taken) room && is_left_of block taken

-- What a caller that goes on block by block relies on, of that many records taken: they are in the block; no more are taken than a replay takes; before each there was room
-- for the longest line, and the replay went on; and where a record may be taken, at least one is.
pub record Within (all : Bool) (done : ℕ) (s : Run) (block : List ℕ) (room taken : ℕ) : Type 0 where
  pub inside : 4 * taken ≤ length block
  pub few : done ≤ most_records → done + taken ≤ most_records
  pub went_on : (k : ℕ) → k < taken → goes_on_after_all all s (take (4 * k) block) ≡ true
  pub enough_room : (k : ℕ) → k < taken → length (records all done s (take (4 * k) block)) + longest_line ≤ room
  pub some : 4 ≤ length block → may_take done room ≡ true → 1 ≤ taken

unfoldable pub BlocksGoOn : Type 0
BlocksGoOn = (all : Bool) (done : ℕ) (s : Run) (block : List ℕ) (room : ℕ) → Within all done s block room (taken_of all done s block room)
