-- What the functions leave that take records: in the words of the recorder.
-- Assumes nothing.
use Rattle.std.specs.Prelude.{◌≡◌, ◌+◌, ◌≤◌}
use Rattle.laws.specs.Basics.{List, Option, ℕ, ltb, length, take, sets, pick}
use Rattle.model.specs.declared.{Event.Event, Run.Run}
use Rattle.theory_recording.specs.Recording.{Tape}
use Rattle.machine_record.specs.{declared.calls.Played.Played, declared.block.Taken.Taken, Recorded.recorded_in}
use Rattle.machine_record.specs.Records.{Standing, standing_next, bytes_of_def, line_of, standing_after, bytes_after, lines_after}

abbrev pub tape : Run → List ℕ → ℕ → Tape
tape s buffer place = record { run = s; buffer = buffer; place = place }

-- A record through the recorder.
pub record Plays (s : Run) (buffer : List ℕ) (place : ℕ) (o : Option Event) (s' : Run) (buffer' : List ℕ) (r : Played) : Type 0 where
  pub left : tape s' buffer' r.place ≡ (recorded_in (tape s buffer place) o).tape
  pub number : r.refused ≡ (recorded_in (tape s buffer place) o).reply.report.refused

-- No line is longer: two numbers of 20 digits at most, and 26 bytes more. A block has 1,024 records.
abbrev pub longest_line : ℕ
longest_line = 66

abbrev pub block_lines : ℕ
block_lines = 67_584

-- The place for a record in a buffer that ends at `end`: none where fewer than four bytes are left.
unfoldable pub place_for_of : ℕ → ℕ → ℕ → ℕ
place_for_of left at end = pick (ltb left 4) end at

-- Where the recorder stands, with the state of the words.
abbrev pub standing_of : Run → Taken → Standing
standing_of s t = record { run = s; left = t.left; done = t.done }

-- One record: what it wrote goes to `out` after what was there, what is reported of it to `lines`.
pub record TakesOne (s : Run) (t : Taken) (o : Option Event) (out lines : List ℕ) (s' : Run) (t' : Taken) (out' lines' : List ℕ) : Type 0 where
  pub standing : standing_of s' t' ≡ standing_next (standing_of s t) o
  pub written : out' ≡ sets out t.size (bytes_of_def (standing_of s t) o)
  pub size : t'.size ≡ t.size + length (bytes_of_def (standing_of s t) o)
  pub few : t'.size ≤ t.size + 4
  pub reported : lines' ≡ sets lines t.pending (line_of (standing_of s t) o)
  pub pending : t'.pending ≡ t.pending + length (line_of (standing_of s t) o)
  pub short : t'.pending ≤ t.pending + longest_line

-- The records of a block: what they wrote is the front of `out`, what is reported of them the front of `lines`.
pub record TakesAll (s : Run) (left done : ℕ) (block : List ℕ) (out lines : ℕ) (s' : Run) (t : Taken) (out' lines' : List ℕ) : Type 0 where
  pub standing : standing_of s' t ≡ standing_after (record { run = s; left = left; done = done }) block
  pub written : take t.size out' ≡ bytes_after (record { run = s; left = left; done = done }) block
  pub reported : take t.pending lines' ≡ lines_after (record { run = s; left = left; done = done }) block
  pub size : t.size ≤ out
  pub pending : t.pending ≤ block_lines
  pub out_length : length out' ≡ out
  pub lines_length : length lines' ≡ lines
