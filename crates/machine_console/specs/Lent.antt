-- The machine's state in what a caller lends: four numbers; the words of the state; the buffer that the script is read into; the buffer for what is written and reported.
-- Assumes nothing.
use Rattle.std.specs.Prelude.{◌≡◌, ◌&&◌, ◌-◌}
use Rattle.laws.specs.Basics.{Bool, true, List, ℕ, eqb, leb, length, get_or, take, pick}
use Rattle.words.specs.Layout.{run_of, state_size}
use Rattle.machines.specs.Forms.{Stands}
use Rattle.machine_console.specs.{Text.call_size, Replied.longest_line}
use Rattle.machine_console.specs.Consoling.{most_calls, Between, State, Opening, Reading, Printing, Ending, Failing, Stopped, consoling}
use Rattle.machine_console.specs.declared.marks.Marks.{Marks}
use Rattle.machines.specs.declared.Request as requests
use Rattle.machines.specs.declared.Request.TheVariants as request

-- There is room for the numbers and the words, for a call, and for the longest line.
unfoldable pub has_room_of : ℕ → ℕ → ℕ → ℕ → Bool
has_room_of memory words input out = leb 4 memory && (eqb words state_size && (leb call_size input && leb longest_line out))

unfoldable pub marks_of : List ℕ → Marks
marks_of memory = record { phase = get_or memory 0 0; done = get_or memory 1 0; kept = get_or memory 2 0; size = get_or memory 3 0 }

-- Where a call is read, it is not the last one.
unfoldable pub most_done_of : ℕ → ℕ
most_done_of phase = pick (eqb phase 2) (most_calls - 1) most_calls

-- The numbers are those of a state: no more calls were made than the program makes, no whole call is kept, and what is to be written and reported stands in the buffer.
unfoldable pub in_bounds_of : Marks → ℕ → Bool
in_bounds_of m out = leb m.done (most_done_of m.phase) && (leb m.kept 7 && leb m.size out)

abbrev pub between_of : Marks → List ℕ → List ℕ → Between
between_of m words input = record { done = m.done; run = run_of words; buffered = take m.kept input }

-- Every number but 1 to 5 stands for a machine that has stopped.
unfoldable pub state_in : Marks → List ℕ → List ℕ → List ℕ → State
state_in m words input out =
    pick (eqb m.phase 1) Opening
    (pick (eqb m.phase 2) (Reading (between_of m words input))
    (pick (eqb m.phase 3) (Printing (take m.size out) (between_of m words input))
    (pick (eqb m.phase 4) (Ending (take m.size out))
    (pick (eqb m.phase 5) (Failing (take m.size out))
    Stopped))))

unfoldable pub is_state : ℕ → Marks → ℕ → ℕ → ℕ → Bool
is_state memory m words input out = has_room_of memory words input out && in_bounds_of m out

unfoldable pub state_of : List ℕ → List ℕ → List ℕ → List ℕ → State
state_of memory words input out = pick (is_state (length memory) (marks_of memory) (length words) (length input) (length out)) (state_in (marks_of memory) words input out) Stopped

-- The bytes that are asked for go after those that are kept.
abbrev pub place_of : List ℕ → ℕ
place_of memory = get_or memory 2 0

-- What the machine asks for, as numbers and places.
unfoldable pub asks_for : Marks → requests.Request
asks_for m =
    pick (eqb m.phase 1) (request.Read m.kept 1)
    (pick (eqb m.phase 2) (request.Read m.kept (call_size - m.kept))
    (pick (eqb m.phase 3) (request.Write m.size)
    (pick (eqb m.phase 4) (request.Write m.size)
    (pick (eqb m.phase 5) (request.Fail m.size)
    request.Stop))))

-- What is lent stands for a state, and the request is what the machine asks for there.
abbrev pub StandsFor : List ℕ → List ℕ → List ℕ → List ℕ → requests.Request → State → Type 0
StandsFor memory words input out r s = Stands consoling (state_of memory words input out) (place_of memory) input out r s

-- The numbers, with the words and buffers, stand for a state.
pub record Arrives (m : Marks) (words input out : List ℕ) (s : State) : Type 0 where
  pub bounds : in_bounds_of m (length out) ≡ true
  pub state : state_in m words input out ≡ s
