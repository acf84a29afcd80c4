-- The machine's state in what a caller lends: eight numbers, the phase, a count and the numbers of the words; the buffer that words are asked into; the buffer for what
-- is written and reported.
-- Assumes nothing.
use Rattle.std.specs.Prelude.{◌≡◌, ◌&&◌, ◌||◌, ◌≤◌}
use Rattle.laws.specs.Basics.{Bool, List, ℕ, eqb, ltb, leb, length, get_or, take, pick}
use Rattle.machines.specs.Forms.{Stands}
use Rattle.machine_simulate.specs.declared.arguments.Numbers.{Numbers}
use Rattle.machine_simulate.specs.Text.{longest_text}
use Rattle.machine_simulate.specs.Simulating.{longest_word, State, Counting, Asking, Printing, Tabling, Reporting, Failing, Stopped, simulating}
use Rattle.machines.specs.declared.Request as requests

-- There is room for the eight numbers, for the longest word, and for the longest text.
abbrev pub EnoughRoom : ℕ → ℕ → ℕ → Type 0
EnoughRoom memory input out = (8 ≤ memory) × (longest_word ≤ input) × (longest_text ≤ out)

unfoldable pub lacks_room_of : ℕ → ℕ → ℕ → Bool
lacks_room_of memory input out = ltb memory 8 || (ltb input longest_word || ltb out longest_text)

-- The numbers of the words.
unfoldable pub kept_in : List ℕ → Numbers
kept_in memory = record {
  n = get_or memory 2 0;
  spacings = record { many = eqb (get_or memory 3 0) 1; from = get_or memory 4 0; to = get_or memory 5 0 };
  steps = get_or memory 6 0;
  seed = get_or memory 7 0;
}

-- Phase 0: the words are counted. Phases 1 to 4: that word is asked for. Phases 5 to 8: that many bytes at the front of `out` are written or reported; in phase 6 more rows follow,
-- none past spacing 1,000. Everything else has stopped.
unfoldable pub in_phase : ℕ → ℕ → Numbers → List ℕ → State
in_phase phase count k out =
    pick (eqb phase 0) Counting
    (pick (leb phase 4) (Asking phase k)
    (pick (eqb phase 5) (Printing (take count out))
    (pick (eqb phase 6 && leb k.spacings.to 1000) (Tabling (take count out) k)
    (pick (eqb phase 7) (Reporting (take count out))
    (pick (eqb phase 8) (Failing (take count out))
    Stopped)))))

unfoldable pub state_of : List ℕ → List ℕ → List ℕ → State
state_of memory input out = pick (lacks_room_of (length memory) (length input) (length out)) Stopped (in_phase (get_or memory 0 0) (get_or memory 1 0) (kept_in memory) out)

-- Eight numbers have this phase, this count and these numbers of words.
abbrev pub Puts : List ℕ → ℕ → ℕ → Numbers → Type 0
Puts memory phase count k = (get_or memory 0 0 ≡ phase) × (get_or memory 1 0 ≡ count) × (kept_in memory ≡ k)

-- What is lent stands for a state, and the request is what the machine asks for there. Words go to the front of `input`.
abbrev pub StandsFor : (memory input out : List ℕ) → requests.Request → State → Type 0
StandsFor memory input out r s = Stands simulating (state_of memory input out) 0 input out r s
