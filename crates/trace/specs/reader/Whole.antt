-- A whole trace taken record by record: which records a reader hands on, how far it comes, and what this is in the words of the model.
-- Assumes nothing.
use Rattle.std.specs.Prelude.{◌≡◌, ◌∷◌, ◌++◌, ◌+◌, ◌*◌, ◌≤◌, ◌<◌}
use Rattle.laws.specs.Basics.{Bool, true, List, [], ℕ, zero, suc, eqb, ltb, length, drop, pick}
use Rattle.std.specs.Borrow.{Bor}
use Rattle.laws.specs.Tests.{every}
use Rattle.model.specs.{declared.Run.Run, declared.Refusal.TheVariants.LeftOverBytes, Trace.decoded}
use Rattle.whole_runs.specs.Listing.{perform, line_text, refusal_text, most_records, goes_on_of, records, state_after_records}
use Rattle.trace.specs.declared.reader.Reader.{Reader}
use Rattle.trace.specs.reader.Reading.{record_after_of, record_left_of, new_reader, reader_after}

-- What a reader hands on in k iterations, each of which takes a record if one is left; and the reader after them.
unfoldable pub handed_on : ℕ → Reader → List (List ℕ)
handed_on zero r = []
handed_on (suc k) r = pick (record_left_of r.trace.now r.taken) (record_after_of r.trace.now r.taken ∷ handed_on k (reader_after r)) []

unfoldable pub advanced_by : ℕ → Reader → Reader
advanced_by zero r = r
advanced_by (suc k) r = advanced_by k (reader_after r)

-- The four-byte parts of the bytes after the first one, in their order, and the one to three bytes left over.
unfoldable pub parts : List ℕ → List (List ℕ)
parts [] = []
parts (a ∷ []) = []
parts (a ∷ b ∷ []) = []
parts (a ∷ b ∷ c ∷ []) = []
parts (a ∷ b ∷ c ∷ d ∷ l) = (a ∷ b ∷ c ∷ d ∷ []) ∷ parts l

-- The parts that a reader has still to hand on.
unfoldable pub parts_left : Reader → List (List ℕ)
parts_left r = parts (drop (1 + 4 * r.taken) r.trace.now)

unfoldable pub left_over_of : List ℕ → List ℕ
left_over_of [] = []
left_over_of (a ∷ []) = a ∷ []
left_over_of (a ∷ b ∷ []) = a ∷ b ∷ []
left_over_of (a ∷ b ∷ c ∷ []) = a ∷ b ∷ c ∷ []
left_over_of (a ∷ b ∷ c ∷ d ∷ l) = left_over_of l

unfoldable pub joined : List (List ℕ) → List ℕ
joined [] = []
joined (p ∷ ps) = p ++ joined ps

-- The replay of parts one by one, to the end (`all`) or to the first refusal: the lines, where `done` records were taken before, and the state.
unfoldable pub lines_of_parts : Bool → ℕ → Run → List (List ℕ) → List ℕ → List ℕ
lines_of_parts all done s [] [] = []
lines_of_parts all done s [] (b ∷ over) = pick (ltb done most_records) (refusal_text (done + 1) LeftOverBytes) []
lines_of_parts all done s (p ∷ ps) over =
    let o = perform s (decoded p) in
    let rest = pick (goes_on_of all o.reply.report.refused) (lines_of_parts all (done + 1) o.run ps over) [] in
    pick (ltb done most_records) (line_text (done + 1) o.reply ++ rest) []

unfoldable pub state_after_parts : Run → List (List ℕ) → Run
state_after_parts s [] = s
state_after_parts s (p ∷ ps) = state_after_parts (perform s (decoded p)).run ps

-- The parts and the left-over bytes are the bytes, each once and in their order, and what the model says of the bytes is what is said of them.
pub record Partition (l : List ℕ) : Type 0 where
  pub nothing_lost : joined (parts l) ++ left_over_of l ≡ l
  pub four_bytes : every (λ p. eqb (length p) 4) (parts l) ≡ true
  pub fewer_than_four : length (left_over_of l) < 4
  pub same_lines : (all : Bool) (done : ℕ) (s : Run) → records all done s l ≡ lines_of_parts all done s (parts l) (left_over_of l)
  pub same_state : (s : Run) → state_after_records s l ≡ state_after_parts s (parts l)

-- A reader opened on a trace, after as many iterations as the trace has records or more.
pub record ReadsWhole (trace : Bor (List ℕ)) (k : ℕ) : Type 0 where
  -- it has handed on the parts of the trace and nothing else
  pub all_parts : handed_on k (new_reader trace) ≡ parts (drop 1 trace.now)
  -- its count is how many they are
  pub counted : (advanced_by k (new_reader trace)).taken ≡ length (parts (drop 1 trace.now))
  -- after it are the left-over bytes
  pub left_after : drop (1 + 4 * (advanced_by k (new_reader trace)).taken) trace.now ≡ left_over_of (drop 1 trace.now)

-- "It hands a record on as the part of the trace with its four bytes": for every trace.
abbrev pub RecordByRecord : Type 0
RecordByRecord = (trace : Bor (List ℕ)) → Partition (drop 1 trace.now) × ((k : ℕ) → length (parts (drop 1 trace.now)) ≤ k → ReadsWhole trace k)
