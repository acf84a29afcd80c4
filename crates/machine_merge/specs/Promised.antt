-- What is promised of the program, over every list of answers of the system.
-- Assumes nothing.
use Rattle.std.specs.Prelude.{◌≡◌, ◌||◌, ◌∷◌, ◌++◌}
use Rattle.laws.specs.Basics.{Bool, true, false, List, [], Option, None, Some, ℕ, eqb, leb, length, pick}
use Rattle.machines.specs.programs.Numbers.{decimal_in}
use Rattle.machines.specs.Machines.{Request, Count, Argument, Open, Read, Write, Say, Fail, Stop, Answer, Number, Bytes, End, Done, Failed, Exchange, heard, stepped, asked, exchanges, state_after, written_of, brought}
use Rattle.machine_merge.specs.{Buffered.most_counted, Printed.printed}
use Rattle.machine_merge.specs.Merging.{State, Stage, Naming, Opening, Reading, usage, no_name_text, file_text, output_name, ask, merging}

-- What the exchanges brought so far: the word of the set; the bytes that were read of each file that was opened, latest first; whether the latest has ended.
pub record Met : Type 0 where
  pub word : List ℕ
  pub files : List (List ℕ)
  pub ended : Bool

abbrev pub nothing : Met
nothing = record { word = []; files = []; ended = false }

-- A file that is opened has brought nothing yet.
unfoldable pub opened : Met → Answer → Met
opened m Done = record { word = m.word; files = [] ∷ m.files; ended = false }
opened m (Number n) = m
opened m (Bytes l) = m
opened m End = m
opened m Failed = m

-- Bytes are those of the latest file.
unfoldable pub grown : List (List ℕ) → List ℕ → List (List ℕ)
grown [] more = []
grown (file ∷ files) more = (file ++ more) ∷ files

unfoldable pub read_on : Met → Answer → Met
read_on m (Bytes more) = record { word = m.word; files = grown m.files more; ended = m.ended }
read_on m End = record { word = m.word; files = m.files; ended = true }
read_on m (Number n) = m
read_on m Done = m
read_on m Failed = m

-- Word 3 is the set.
unfoldable pub worded : Met → ℕ → Answer → Met
worded m i a = pick (eqb i 3) (record { word = brought a; files = m.files; ended = m.ended }) m

unfoldable pub met : Met → Request → Answer → Met
met m Count a = m
met m (Argument i most) a = worded m i a
met m (Open path) a = opened m a
met m (Read most) a = read_on m a
met m (Write text) a = m
met m (Say text) a = m
met m (Fail text) a = m
met m Stop a = m

unfoldable pub met_in : Met → List Exchange → Met
met_in m [] = m
met_in m (e ∷ talk) = met_in (met m e.request e.answer) talk

-- The latest file is read to its end, or as far as a file is read.
unfoldable pub whole_file : List (List ℕ) → Bool
whole_file [] = false
whole_file (file ∷ files) = leb most_counted (length file)

unfoldable pub is_whole : Met → Bool
is_whole m = m.ended || whole_file m.files

-- What is printed for two files and the whole number that the word is.
unfoldable pub merge_of : List ℕ → List ℕ → Option ℕ → List ℕ
merge_of first second None = []
merge_of first second (Some set) = (printed first second set).trace

unfoldable pub merged_of : List (List ℕ) → Option ℕ → List ℕ
merged_of [] set = []
merged_of (file ∷ []) set = []
merged_of (second ∷ first ∷ []) set = merge_of first second set
merged_of (file ∷ second ∷ first ∷ files) set = []

-- The merged trace, once both files are read to their ends.
unfoldable pub trace_of : Met → List ℕ
trace_of m = pick (is_whole m) (merged_of m.files (decimal_in m.word)) []

-- What is reported of two files that are not merged, and of words that are not two files and a set.
unfoldable pub refusal_of : List ℕ → List ℕ → Option ℕ → List ℕ
refusal_of first second None = []
refusal_of first second (Some set) = (printed first second set).refusal

unfoldable pub line_of : List (List ℕ) → Option ℕ → List ℕ
line_of [] set = usage
line_of (file ∷ []) set = []
line_of (second ∷ first ∷ []) set = refusal_of first second set
line_of (file ∷ second ∷ first ∷ files) set = []

-- Of every list of answers of the system:
pub record Merges (answers : List Answer) : Type 0 where
  -- what is asked to be written is the definition's merged trace of the two files that were read, once both have ended, and nothing before or where it is refused;
  pub writes : written_of (asked merging answers) ≡ trace_of (met_in nothing (exchanges merging answers))
  -- what is reported is the line of the refusal of these files, or, where none was opened, how the program is started;
  pub says : (line : List ℕ) → ask (state_after merging answers) ≡ Say line
      → line ≡ line_of (met_in nothing (exchanges merging answers)).files (decimal_in (met_in nothing (exchanges merging answers)).word)
  -- nothing is asked to be read of a file that has ended.
  pub reads : (most : ℕ) → ask (state_after merging answers) ≡ Read most → is_whole (met_in nothing (exchanges merging answers)) ≡ false

-- After an error of the system it says so, and stops.
pub record SaysFailures : Type 0 where
  pub unnamed_reported : (stage : Stage) → ask (stepped merging (Naming stage) Failed) ≡ Fail (no_name_text stage)
  pub unopened_reported : (stage : Stage) (name : List ℕ) → ask (stepped merging (Opening stage name) Failed) ≡ Fail (file_text stage name)
  pub unread_reported : (stage : Stage) (name kept : List ℕ) (total : ℕ) → ask (stepped merging (Reading stage name kept total) Failed) ≡ Fail (file_text stage name)
  pub unwritten_reported : (s : State) (text : List ℕ) (a : Answer) → ask s ≡ Write text → heard (Write text) a ≡ Failed → ask (stepped merging s a) ≡ Fail output_name
  pub then_stops : (s : State) (text : List ℕ) (a : Answer) → ask s ≡ Fail text → ask (stepped merging s a) ≡ Stop

abbrev pub MergesAlways : Type 0
MergesAlways = (answers : List Answer) → Merges answers
