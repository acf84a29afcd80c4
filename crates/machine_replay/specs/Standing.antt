-- The state that stands in lent lists: six numbers, the words of the run, the bytes that were read, and the text that is written.
-- Assumes nothing.
use Rattle.std.specs.Prelude.{◌≡◌, ◌&&◌, ◌+◌, ◌-◌, ◌≤◌, ◌<◌}
use Rattle.laws.specs.Basics.{Bool, true, false, List, ℕ, eqb, ltb, leb, length, get_or, take, drop, sets, pick}
use Rattle.whole_runs.specs.{Listing.most_records, WholeRuns.Reachable}
use Rattle.listing.specs.Lines.{longest_line}
use Rattle.words.specs.Layout.{state_size, run_of}
use Rattle.library_replay.specs.declared.block.Progress.{Progress}
use Rattle.library_replay.specs.Taken.{block_outcome}
use Rattle.machine_replay.specs.declared.place.Place.{Place}
use Rattle.machine_replay.specs.Replaying.{Between, State, starting, counted, opening, reading, printing, ending, failing, stopped}

-- How many numbers, and the numbers in their order: which of the states it is; whether it goes on after a refusal; how many records were taken; where the bytes that
-- belong to none of them begin, and how many they are; how long the text is that is written.
abbrev pub numbers : ℕ
numbers = 6

unfoldable pub bit_of : Bool → ℕ
bit_of b = pick b 1 0

unfoldable pub place_in : List ℕ → Place
place_in memory = record {
  phase = get_or memory 0 0;
  all = eqb (get_or memory 1 0) 1;
  count = get_or memory 2 0;
  from = get_or memory 3 0;
  buffered = get_or memory 4 0;
  written = get_or memory 5 0;
}

-- The phases by number.
abbrev pub starting_phase : ℕ
starting_phase = 0

abbrev pub counted_phase : ℕ
counted_phase = 1

abbrev pub opening_phase : ℕ
opening_phase = 2

abbrev pub reading_phase : ℕ
reading_phase = 3

abbrev pub printing_phase : ℕ
printing_phase = 4

abbrev pub ending_phase : ℕ
ending_phase = 5

abbrev pub failing_phase : ℕ
failing_phase = 6

-- The least buffer that what is read goes to.
abbrev pub least_input : ℕ
least_input = 8

unfoldable pub between_in : Place → List ℕ → List ℕ → Between
between_in p words input = record { all = p.all; done = p.count; run = run_of words; buffered = take p.buffered (drop p.from input) }

-- There is room for the words of a run, for what is read, and for the longest line.
unfoldable pub enough_room : ℕ → ℕ → ℕ → Bool
enough_room words input out = eqb words state_size && (leb least_input input && leb longest_line out)

-- The numbers lie inside the lists. But while lines are written, less than a record is held, at the front.
unfoldable pub inside : Place → ℕ → ℕ → Bool
inside p input out =
    ltb p.count most_records && (leb p.written out && (leb p.buffered input && (leb p.from (input - p.buffered)
    && pick (eqb p.phase printing_phase) true (ltb p.buffered 4 && eqb p.from 0))))

unfoldable pub by_phase : Place → List ℕ → List ℕ → List ℕ → State
by_phase p words input out =
    pick (eqb p.phase starting_phase) starting
    (pick (eqb p.phase counted_phase) (counted p.all)
    (pick (eqb p.phase opening_phase) (opening p.all)
    (pick (eqb p.phase reading_phase) (reading (between_in p words input))
    (pick (eqb p.phase printing_phase) (printing (between_in p words input) (take p.written out))
    (pick (eqb p.phase ending_phase) (ending (take p.written out))
    (pick (eqb p.phase failing_phase) (failing (take p.written out))
    stopped))))))

-- Lists in which no state stands count as stopped.
unfoldable pub state_in : Place → List ℕ → List ℕ → List ℕ → State
state_in p words input out = pick (enough_room (length words) (length input) (length out) && inside p (length input) (length out)) (by_phase p words input out) stopped

unfoldable pub state_of : List ℕ → List ℕ → List ℕ → List ℕ → State
state_of words memory input out = pick (leb numbers (length memory)) (state_in (place_in memory) words input out) stopped

-- The bytes that are asked for go to the place after those that are held.
unfoldable pub place_of : List ℕ → ℕ
place_of memory = (place_in memory).buffered

-- Calls from an accepted start led to the run of a state that has one.
unfoldable pub FromStart : State → Type 0
FromStart starting = Unit {0}
FromStart (counted one) = Unit {0}
FromStart (opening all) = Unit {0}
FromStart (reading b) = Reachable b.run
FromStart (printing b lines) = Reachable b.run
FromStart (ending lines) = Unit {0}
FromStart (failing text) = Unit {0}
FromStart stopped = Unit {0}

-- A state that stands in its lists.
pub record Holds (p : Place) (words input out : List ℕ) : Type 0 where
  pub room : enough_room (length words) (length input) (length out) ≡ true
  pub there : inside p (length input) (length out) ≡ true

-- The places of the bytes held, and of the records yet to take.
pub record Lies (p : Place) (words input out : List ℕ) : Type 0 where
  pub room : enough_room (length words) (length input) (length out) ≡ true
  pub few : p.count < most_records
  pub within : p.from + p.buffered ≤ length input

-- What a block of records comes to, in lent lists.
pub record Blocked (all : Bool) (done : ℕ) (words block out : List ℕ) (made : Progress) (then-words then-out : List ℕ) : Type 0 where
  pub taken : made.taken ≡ (block_outcome all done (run_of words) block (length out)).taken
  pub written : made.written ≡ length (block_outcome all done (run_of words) block (length out)).lines
  pub fits : made.written ≤ length out
  pub going : made.going ≡ (block_outcome all done (run_of words) block (length out)).going
  pub lines : then-out ≡ sets out 0 (block_outcome all done (run_of words) block (length out)).lines
  pub run : run_of then-words ≡ (block_outcome all done (run_of words) block (length out)).run

-- Places: with a way and nothing else; with a text and nothing else; with less than a record held, at the front; with more bytes held.
unfoldable pub plain_place : ℕ → Bool → Place
plain_place phase all = record { phase = phase; all = all; count = 0; from = 0; buffered = 0; written = 0 }

unfoldable pub text_place : ℕ → ℕ → Place
text_place phase written = record { phase = phase; all = false; count = 0; from = 0; buffered = 0; written = written }

unfoldable pub waiting_place : Place → Place
waiting_place p = record { phase = reading_phase; all = p.all; count = p.count; from = 0; buffered = p.buffered; written = 0 }

unfoldable pub holding : Place → ℕ → Place
holding p more = record { phase = reading_phase; all = p.all; count = p.count; from = 0; buffered = p.buffered + more; written = 0 }
