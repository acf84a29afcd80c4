-- The machine's state in what a caller lends: two numbers, the phase and a count; the buffer that the trace is read into; the buffer for what is written and reported.
-- Assumes nothing.
use Rattle.std.specs.Prelude.{◌&&◌, ◌||◌, ◌≤◌}
use Rattle.laws.specs.Basics.{Bool, List, ℕ, eqb, ltb, leb, length, get_or, take, pick}
use Rattle.machines.specs.Forms.{Stands}
use Rattle.machine_judge.specs.Text.{longest_verdict}
use Rattle.machine_judge.specs.Judging.{most_read, State, Reading, Printing, Failing, Stopped, judging}
use Rattle.machines.specs.declared.Request as requests

-- There is room for the two numbers, for all bytes that count, and for the longest line.
abbrev pub EnoughRoom : ℕ → ℕ → ℕ → Type 0
EnoughRoom memory input out = (2 ≤ memory) × (most_read ≤ input) × (longest_verdict ≤ out)

unfoldable pub lacks_room_of : ℕ → ℕ → ℕ → Bool
lacks_room_of memory input out = ltb memory 2 || (ltb input most_read || ltb out longest_verdict)

-- Phase 0: that many bytes were read. Phases 1 and 2: that many bytes are to be written, or name what failed. Everything else has stopped.
unfoldable pub in_phase : ℕ → ℕ → List ℕ → List ℕ → State
in_phase phase count input out =
    pick (eqb phase 0 && leb count most_read) (Reading (take count input))
    (pick (eqb phase 1 && leb count (length out)) (Printing (take count out))
    (pick (eqb phase 2 && leb count (length out)) (Failing (take count out))
    Stopped))

unfoldable pub state_of : List ℕ → List ℕ → List ℕ → State
state_of memory input out = pick (lacks_room_of (length memory) (length input) (length out)) Stopped (in_phase (get_or memory 0 0) (get_or memory 1 0) input out)

-- The bytes that are read go after those that were.
abbrev pub place_of : List ℕ → ℕ
place_of memory = get_or memory 1 0

-- What is lent stands for a state, and the request is what the machine asks for there.
abbrev pub StandsFor : (memory input out : List ℕ) → requests.Request → State → Type 0
StandsFor memory input out r s = Stands judging (state_of memory input out) (place_of memory) input out r s
