-- The start of a recording, and Note 9 of what the program writes.
-- Assumes nothing.
use Rattle.std.specs.Prelude.{◌≡◌, ◌∷◌, ◌++◌, ◌+◌, ◌-◌, ◌*◌, ◌≤◌, Err, Ok}
use Rattle.laws.specs.Basics.{refl, sym, ◌∙◌, ap, true, false, List, [], ℕ, arith, eqb, length, take, drop, length-replicate, length-drop}
use lib.Seq.{take_at}
use Prim.{tt}
use Rattle.model.specs.Shapes.{StartAnswer}
use Rattle.model.specs.{Words.ones, Steps.start_state}
use Rattle.whole_runs.specs.{Outcomes.start_report, Listing.state_after_records}
use Rattle.whole_runs.proofs.whole.Reached.{refused_number}
use Rattle.theory_recording.specs.Replay.{records_of}
use Rattle.theory_recording.specs.Recording.{recorded_start, begun, tape_after, entries, trace_of, ReplaysTheSame, RecordingReplays}
use Rattle.theory_recording.proofs.Recording.{recording_replays}
use Rattle.machine_record.specs.Recorded.{calls_in, lent, start_number, in_front, tape_of, recorded_trace, refused_lines}
use Rattle.machine_record.specs.{Records.Standing, Records.bytes_after, Records.lines_after, Records.StandsAt, Promised.WrittenReplays}
use Rattle.machine_record.proofs.Emptied.{same}

-- An accepted start: a long buffer stands where the emptied one does, with the count in front.
abbrev pub first : ℕ → ℕ → Standing
first size n = record { run = start_state n ones; left = size - 1; done = 0 }

no_refusal : (a : StartAnswer) → eqb (start_report a).refused 0 ≡ true → a ≡ Ok tt
unfolding start_report
no_refusal (Err x) h = let wrong = sym h ∙ refused_number x in cc
no_refusal (Ok tt) h = refl

accepted : (size n : ℕ) → eqb (start_number size n) 0 ≡ true → (recorded_start n ones (lent size)).outcome.answer ≡ Ok tt
unfolding start_number
accepted size n h = no_refusal (recorded_start n ones (lent size)).outcome.answer h

front_is : (x y b : List ℕ) (p : ℕ) → b ≡ x ++ y → p ≡ length x → take p b ≡ x
front_is x y b p e h = ap (take p) e ∙ take_at x y p (sym h)

size_of : (n k : ℕ) (l : List ℕ) → length l ≡ 4 * k → 1 + 4 * k ≡ length (n ∷ l)
size_of n k l e = omega arith

pub written_replays : WrittenReplays
unfolding WrittenReplays RecordingReplays recorded_trace in_front tape_of
written_replays size n l h =
    let w = recording_replays n ones (lent size) (accepted size n h) (calls_in l) in
    (rw h (front_is _ _ (tape_of size n l).buffer (tape_of size n l).place w.written (w.place ∙ size_of n _ (trace_of (entries (begun n ones (lent size)) (calls_in l))) w.size)), w)

start_replays : (size n : ℕ) → eqb (start_number size n) 0 ≡ true → ReplaysTheSame n ones (lent size) (begun n ones (lent size)) []
unfolding RecordingReplays tape_after entries
start_replays size n h = recording_replays n ones (lent size) (accepted size n h) []

start_stands : (size n : ℕ) → eqb (start_number size n) 0 ≡ true → StandsAt (first size n) (begun n ones (lent size))
unfolding state_after_records records_of lent
start_stands size n h =
    let w = start_replays size n h in
    let t = begun n ones (lent size) in
    let one : t.place ≡ 1 = omega (arith, w.place) in
    let many : length t.buffer ≡ size = ap (λ (x : List ℕ). length x) w.written ∙ sized_whole (lent size) t.place one w.inside ∙ length-replicate {A = ℕ} size 0 in
    record { run = sym w.same; inside = omega (arith, w.inside, many, length-replicate {A = ℕ} size 0); left = omega (arith, one, many) }
  where
    sized_whole : (l : List ℕ) (p : ℕ) → p ≡ 1 → p ≤ length l → length {A = ℕ} ((n ∷ []) ++ drop p l) ≡ length l
    sized_whole l p e k = omega (arith, length-drop p l)

start_front : (size n : ℕ) → eqb (start_number size n) 0 ≡ true → in_front (begun n ones (lent size)) ≡ n ∷ []
unfolding in_front records_of
start_front size n h =
    let w = start_replays size n h in
    front_is (n ∷ []) _ (begun n ones (lent size)).buffer (begun n ones (lent size)).place w.written (omega (arith, w.place))

-- What is recorded and said of an input, in emptied buffers.
pub trace_is : (size n : ℕ) (l : List ℕ) → eqb (start_number size n) 0 ≡ true → recorded_trace size (n ∷ l) ≡ (n ∷ []) ++ bytes_after (first size n) l
unfolding recorded_trace tape_of
trace_is size n l h = rw h ((same (first size n) (begun n ones (lent size)) (start_stands size n h) l).bytes ∙ ap (λ (x : List ℕ). x ++ bytes_after (first size n) l) (start_front size n h))

pub lines_are : (size n : ℕ) (l : List ℕ) → eqb (start_number size n) 0 ≡ true → refused_lines size (n ∷ l) ≡ lines_after (first size n) l
unfolding refused_lines
lines_are size n l h = rw h (same (first size n) (begun n ones (lent size)) (start_stands size n h) l).lines
