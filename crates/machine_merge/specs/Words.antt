-- The machine's state in what a caller lends: seven numbers; the buffer that words and files are read into; the buffer for what is written and reported.
-- Assumes nothing.
use Rattle.std.specs.Prelude.{◌≡◌, ◌&&◌, ◌||◌, ◌+◌, ◌≤◌}
use Rattle.laws.specs.Basics.{Bool, true, List, ℕ, min, eqb, ltb, leb, length, get_or, take, drop, pick}
use Rattle.machines.specs.{Machines.stepped, Forms.answer_of, Forms.Asks, Forms.Stands}
use Rattle.machine_merge.specs.declared.marks.Marks.{Marks}
use Rattle.machine_merge.specs.Buffered.{most_kept_of, most_counted, buffered_size, wanted}
use Rattle.machine_merge.specs.Merging.{longest_word, longest_name, Stage, FirstHalf, SecondHalf, State, Counting, Setting, Naming, Opening, Reading, Writing, Reporting, Failing, Stopped, ask, half_read, onward, merging}
use Rattle.machines.specs.declared.Request as requests
use Rattle.machines.specs.declared.Request.TheVariants as request
use Rattle.machines.specs.declared.Answer as answers

-- There is room for the seven numbers, for the longest word, and for both halves in one trace.
abbrev pub longest_trace : ℕ
longest_trace = 32784

abbrev pub EnoughRoom : ℕ → ℕ → ℕ → Type 0
EnoughRoom memory input out = (7 ≤ memory) × (longest_word ≤ input) × (longest_trace ≤ out)

unfoldable pub lacks_room_of : ℕ → ℕ → ℕ → Bool
lacks_room_of memory input out = ltb memory 7 || (ltb input longest_word || ltb out longest_trace)

unfoldable pub marks_of : List ℕ → Marks
marks_of memory = record {
  phase = get_or memory 0 0;
  half = get_or memory 1 0;
  set = get_or memory 2 0;
  first = get_or memory 3 0;
  name = get_or memory 4 0;
  count = get_or memory 5 0;
  size = get_or memory 6 0;
}

-- A phase that is about no file.
abbrev pub at_phase : ℕ → ℕ → Marks
at_phase phase size = record { phase = phase; half = 0; set = 0; first = 0; name = 0; count = 0; size = size }

-- The numbers are those of a state: the set has 32 bits, no more bytes are held or named than there is room for, a half that is read is not counted to its end, and
-- what is to be written or reported stands in the buffer.
unfoldable pub in_bounds_of : Marks → ℕ → Bool
in_bounds_of m out = leb m.set 4294967295 && (leb m.first most_kept_of && (leb m.name longest_name && (ltb m.count most_counted && leb m.size out)))

-- The first three of these.
abbrev pub Fits : Marks → Type 0
Fits m = (m.set ≤ 4294967295) × (m.first ≤ most_kept_of) × (m.name ≤ longest_name)

-- The first file's name, its bytes that are kept, the second file's name and its bytes stand one after the other. Bytes that are only counted go after those that are kept.
unfoldable pub name_at : ℕ → ℕ
name_at half = pick (eqb half 0) 0 (longest_name + most_kept_of)

unfoldable pub half_at_of : ℕ → ℕ
half_at_of half = name_at half + longest_name

unfoldable pub read_to_of : ℕ → ℕ → ℕ
read_to_of half count = half_at_of half + min count most_kept_of

unfoldable pub stage_of : Marks → List ℕ → Stage
stage_of m input = pick (eqb m.half 0) (FirstHalf m.set) (SecondHalf m.set (take m.first (drop longest_name input)))

unfoldable pub name_of : Marks → List ℕ → List ℕ
name_of m input = take m.name (drop (name_at m.half) input)

unfoldable pub kept_of : ℕ → ℕ → List ℕ → List ℕ
kept_of half count input = take (min count most_kept_of) (drop (half_at_of half) input)

-- Phases 1 and 2: the words are counted, the set is asked for. 3 to 5: a file is named, opened, read. 6 to 8: that many bytes are to be written or reported, or name what
-- failed. Everything else has stopped.
unfoldable pub state_in : Marks → List ℕ → List ℕ → State
state_in m input out =
    pick (eqb m.phase 1) Counting
    (pick (eqb m.phase 2) Setting
    (pick (eqb m.phase 3) (Naming (stage_of m input))
    (pick (eqb m.phase 4) (Opening (stage_of m input) (name_of m input))
    (pick (eqb m.phase 5) (Reading (stage_of m input) (name_of m input) (kept_of m.half m.count input) m.count)
    (pick (eqb m.phase 6) (Writing (take m.size out))
    (pick (eqb m.phase 7) (Reporting (take m.size out))
    (pick (eqb m.phase 8) (Failing (take m.size out))
    Stopped)))))))

unfoldable pub state_of : List ℕ → List ℕ → List ℕ → State
state_of memory input out =
    pick (lacks_room_of (length memory) (length input) (length out)) Stopped
    (pick (in_bounds_of (marks_of memory) (length out)) (state_in (marks_of memory) input out) Stopped)

-- A file with a name of that many bytes is opened; that many bytes of it were read; or it is read to its end.
abbrev pub opening_of : Marks → ℕ → List ℕ → State
opening_of m name input = Opening (stage_of m input) (take name (drop (name_at m.half) input))

abbrev pub reading_of : Marks → ℕ → List ℕ → State
reading_of m count input = Reading (stage_of m input) (name_of m input) (kept_of m.half count input) count

abbrev pub onward_of : Marks → ℕ → List ℕ → State
onward_of m count input = onward (stage_of m input) (name_of m input) (kept_of m.half count input) count

abbrev pub ended_of : Marks → ℕ → List ℕ → State
ended_of m count input = half_read (stage_of m input) (take (buffered_size count) (drop (half_at_of m.half) input))

-- The place that bytes are read to: nothing that the state is made of stands there or after it.
unfoldable pub place_in : Marks → ℕ
place_in m =
    pick (eqb m.phase 3) (name_at m.half)
    (pick (eqb m.phase 4) (half_at_of m.half)
    (pick (eqb m.phase 5) (read_to_of m.half m.count)
    0))

abbrev pub place_of : List ℕ → ℕ
place_of memory = place_in (marks_of memory)

-- The files are words 1 and 2.
unfoldable pub word_at : ℕ → ℕ
word_at half = pick (eqb half 0) 1 2

-- What the machine asks for, as numbers and places.
unfoldable pub asks_for : Marks → requests.Request
asks_for m =
    pick (eqb m.phase 1) request.Count
    (pick (eqb m.phase 2) (request.Argument 3 0 longest_word)
    (pick (eqb m.phase 3) (request.Argument (word_at m.half) (name_at m.half) longest_name)
    (pick (eqb m.phase 4) (request.Open m.name)
    (pick (eqb m.phase 5) (request.Read (read_to_of m.half m.count) (wanted m.count))
    (pick (eqb m.phase 6) (request.Write m.size)
    (pick (eqb m.phase 7) (request.Say m.size)
    (pick (eqb m.phase 8) (request.Fail m.size)
    request.Stop)))))))

-- What is lent stands for a state, and the request is what the machine asks for there.
abbrev pub StandsFor : (memory input out : List ℕ) → requests.Request → State → Type 0
StandsFor memory input out r s = Stands merging (state_of memory input out) (place_of memory) input out r s

-- The same of the numbers of a state before they are put.
pub record Arrives (m : Marks) (input out : List ℕ) (s : State) : Type 0 where
  pub bounds : in_bounds_of m (length out) ≡ true
  pub state : state_in m input out ≡ s
  pub asks : Asks (asks_for m) (place_in m) input out (ask s)

-- They stand for the state that an answer leads to; the bytes that it brought are at a place.
abbrev pub Leads : Marks → List ℕ → List ℕ → State → answers.Answer → ℕ → Type 0
Leads m input out s answer place = Arrives m input out (stepped merging s (answer_of answer place input))
