-- The machine's state in what a caller lends: six numbers; the words of the state; the buffer that the input is read into; the buffer for what is written and reported; and a
-- buffer for lines that are reported after what is written.
-- Assumes nothing.
use Rattle.std.specs.Prelude.{◌≡◌, ◌&&◌, ◌-◌, ◌*◌}
use Rattle.laws.specs.Basics.{Bool, true, List, ℕ, min, eqb, leb, length, get_or, take, pick}
use Rattle.words.specs.Layout.{run_of, state_size}
use Rattle.machines.specs.Forms.{Stands}
use Rattle.whole_runs.specs.Listing.{most_records}
use Rattle.machine_record.specs.declared.marks.Marks.{Marks}
use Rattle.machine_record.specs.Played.{block_lines}
use Rattle.machine_record.specs.Machine.{Position, State, counting, naming, beginning, writing, reporting, reading, ending, failing, stopped, machine, longest_word, block_bytes}
use Rattle.machines.specs.declared.Request as requests
use Rattle.machines.specs.declared.Request.TheVariants as request

-- As many bytes as are kept of a record, and a word or a block after them; and as many as the longest trace has (`long_enough`).
abbrev pub input_size : ℕ
input_size = 4_099

abbrev pub longest_trace : ℕ
longest_trace = 4_000_000_001

-- There is room for the numbers and the words, for what is kept with a word or a block after it, for what a block records, and for what is reported of it.
unfoldable pub has_room_of : ℕ → ℕ → ℕ → ℕ → ℕ → Bool
has_room_of memory words input out lines = leb 6 memory && (eqb words state_size && (leb input_size input && (leb block_lines out && leb block_lines lines)))

unfoldable pub marks_of : List ℕ → Marks
marks_of memory = record {
  phase = get_or memory 0 0;
  left = get_or memory 1 0;
  done = get_or memory 2 0;
  kept = get_or memory 3 0;
  size = get_or memory 4 0;
  pending = get_or memory 5 0;
}

-- The numbers are those of a state: no more is left than the longest buffer has, no more records were taken than a replay takes, no whole record is kept, and what is to be
-- written and reported stands in the buffers.
unfoldable pub in_bounds_of : Marks → ℕ → Bool
in_bounds_of m out = leb m.left longest_trace && (leb m.done most_records && (leb m.kept 3 && (leb m.size out && leb m.pending block_lines)))

abbrev pub position_of : Marks → List ℕ → List ℕ → Position
position_of m words input = record { standing = record { run = run_of words; left = m.left; done = m.done }; rest = take m.kept input }

-- Every number but 1 to 8 stands for a machine that has stopped.
unfoldable pub state_in : Marks → List ℕ → List ℕ → List ℕ → List ℕ → State
state_in m words input out lines =
    pick (eqb m.phase 1) counting
    (pick (eqb m.phase 2) naming
    (pick (eqb m.phase 3) (beginning m.left)
    (pick (eqb m.phase 4) (writing (take m.size out) (take m.pending lines) (position_of m words input))
    (pick (eqb m.phase 5) (reporting (take m.size out) (position_of m words input))
    (pick (eqb m.phase 6) (reading (position_of m words input))
    (pick (eqb m.phase 7) (ending (take m.size out))
    (pick (eqb m.phase 8) (failing (take m.size out))
    stopped)))))))

unfoldable pub is_state : ℕ → Marks → ℕ → ℕ → ℕ → ℕ → Bool
is_state memory m words input out lines = has_room_of memory words input out lines && in_bounds_of m out

unfoldable pub state_of : List ℕ → List ℕ → List ℕ → List ℕ → List ℕ → State
state_of memory words input out lines =
    pick (is_state (length memory) (marks_of memory) (length words) (length input) (length out) (length lines)) (state_in (marks_of memory) words input out lines) stopped

-- The bytes that are asked for go after those that are kept.
abbrev pub place_of : List ℕ → ℕ
place_of memory = get_or memory 3 0

-- What the machine asks for, as numbers and places.
unfoldable pub asks_for : Marks → requests.Request
asks_for m =
    pick (eqb m.phase 1) request.Count
    (pick (eqb m.phase 2) (request.Argument 1 m.kept longest_word)
    (pick (eqb m.phase 3) (request.Read m.kept 1)
    (pick (eqb m.phase 4) (request.Write m.size)
    (pick (eqb m.phase 5) (request.Say m.size)
    (pick (eqb m.phase 6) (request.Read m.kept (min block_bytes (4 * (most_records - m.done)) - m.kept))
    (pick (eqb m.phase 7) (request.Say m.size)
    (pick (eqb m.phase 8) (request.Fail m.size)
    request.Stop)))))))

-- What is lent stands for a state, and the request is what the machine asks for there.
abbrev pub StandsFor : List ℕ → List ℕ → List ℕ → List ℕ → List ℕ → requests.Request → State → Type 0
StandsFor memory words input out lines r s = Stands machine (state_of memory words input out lines) (place_of memory) input out r s

-- The numbers, with the words and buffers, stand for a state.
pub record Arrives (m : Marks) (words input out lines : List ℕ) (s : State) : Type 0 where
  pub bounds : in_bounds_of m (length out) ≡ true
  pub state : state_in m words input out lines ≡ s
