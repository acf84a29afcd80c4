-- The recorder on the calls in place. `recorded_checkpoint` .. `recorded_earliest` of the crate theory_recording are of the run that the words stand for; here are a start in place
-- through the recorder, and what a replay of the buffer gives. proofs/Recorded has the theorem.
-- Assumes nothing.
use Rattle.std.specs.Prelude.{◌≡◌, ◌∷◌, Err, Ok}
use Rattle.laws.specs.Basics.{List, [], ℕ, ltb, length, pick}
use Prim.{tt}
use Rattle.model.specs.Shapes.{StartAnswer}
use Rattle.model.specs.{declared.Refusal.TheVariants.BufferTooShort, Words.blank}
use Rattle.whole_runs.specs.{Outcomes.judged, Calls.Call}
use Rattle.theory_recording.specs.Recording.{Recorded, unwritten, appended, Tape, recorded, begun, entries, ReplaysTheSame}
use Rattle.words.specs.{Clean.Clean, Layout.run_of}
use Rattle.in_place.specs.{Left.Leaves, Starting.start_refusal_in, Starting.start_outcome_in, Starting.start_words}

-- "whose first byte is the count; the start writes that byte". "21, after all numbers of the call itself": a refused start writes no byte and leaves the place as it was.
unfoldable pub recorded_start_in : ℕ → ℕ → List ℕ → List ℕ → ℕ → Recorded StartAnswer
recorded_start_in many n block_counts buffer place = judged (start_refusal_in many n block_counts)
    (λ r. unwritten (start_outcome_in many n block_counts) buffer place)
    (pick (ltb (length buffer) 1)
    (unwritten (record { run = blank 0; answer = Err BufferTooShort; rose = 0; deleted = []; line = [] }) buffer place)
    (appended (start_outcome_in many n block_counts) (n ∷ []) buffer 0))

-- The words then: with no byte in the buffer every start is refused, and leaves what a start of no process does.
unfoldable pub recorded_start_words : List ℕ → ℕ → List ℕ → List ℕ → List ℕ
recorded_start_words w n block_counts buffer = pick (ltb (length buffer) 1) (start_words w 0 block_counts) (start_words w n block_counts)

-- The words, the buffer and the place: what a call through the recorder is handed, and what it leaves to the next.
pub record WordTape : Type 0 where
  pub words : List ℕ
  pub buffer : List ℕ
  pub place : ℕ

unfoldable pub tape_of : WordTape → Tape
tape_of t = record { run = run_of t.words; buffer = t.buffer; place = t.place }

-- u is what a call through the recorder leaves of t, accepted or refused: clauses of the contract of every call. A call that only reads the words leaves them as they were.
pub record RecordedIn (t : WordTape) (c : Call) (u : WordTape) : Type 0 where
  pub tape : tape_of u ≡ (recorded (tape_of t) c).tape
  pub leaves : Leaves t.words u.words

unfoldable pub RecordedAll : WordTape → List Call → WordTape → Type 0
RecordedAll t [] u = u ≡ t
RecordedAll t (c ∷ calls) u = (v : WordTape) × RecordedIn t c v × RecordedAll v calls u

-- What a start through the recorder leaves.
unfoldable pub begun_in : List ℕ → ℕ → List ℕ → List ℕ → ℕ → WordTape
begun_in w n block_counts buffer place = record {
  words = recorded_start_words w n block_counts buffer;
  buffer = (recorded_start_in (length w) n block_counts buffer place).buffer;
  place = (recorded_start_in (length w) n block_counts buffer place).place;
}

-- Note 9 in place: "Where every call of a run, the start first, goes through the writer, each with the state, buffer and place the one before left", a replay of what was
-- recorded is the same; and every place of the words that is not in use is zero.
unfoldable pub RecordingReplaysIn : Type 0
RecordingReplaysIn = (w : List ℕ) (n : ℕ) (block_counts buffer : List ℕ) (place : ℕ) → (recorded_start_in (length w) n block_counts buffer place).outcome.answer ≡ Ok tt
    → (calls : List Call) (u : WordTape) → RecordedAll (begun_in w n block_counts buffer place) calls u
    → ReplaysTheSame n block_counts buffer (tape_of u) (entries (begun n block_counts buffer) calls) × Clean u.words
