-- The verdict on a trace, as a function of its bytes; the number and the values of each verdict; and what it is for a verdict to be right, by paths and precedence
-- alone. The verdict is right (proofs/Right: `verdict_right`), and no other is (proofs/Only: `one_verdict`).
-- Assumes nothing.
use Rattle.std.specs.Prelude.{◌≡◌, ◌∷◌, ◌++◌, ◌*◌, ◌/◌, ◌≤◌, Result, Ok, Err}
use Rattle.laws.specs.Basics.{List, [], Option, None, Some, ℕ, length}
use Rattle.model.specs.declared.Refusal.{Refusal}
use Rattle.model.specs.{Words.ones, Refusals.number, Refusals.start_refusal}
use Rattle.theory_patterns.specs.declared.BreakingPair.{BreakingPair}
use Rattle.theory_patterns.specs.Patterns.{Pattern, empty, Reading, refused, whole, most_judged, read_from, reading}
use Rattle.theory_patterns.specs.{Paths.FirstBreaking, Judging.first_pair}
use Rattle.theory_patterns.specs.Paths as paths

-- The first byte of a trace, 0 if it has none.
unfoldable pub count_of : List ℕ → ℕ
count_of [] = 0
count_of (n ∷ l) = n

-- What a trace is judged to be: why it is refused; else the first pair that breaks, and without one the trace is trackable.
abbrev pub Verdict : Type 0
Verdict = Result (Option BreakingPair) Refusal

-- "the first one refused ends the reading and its number is the result"; else the first pair that breaks, and without one the trace is trackable.
unfoldable pub verdict_on : ℕ → Reading → Verdict
verdict_on n (refused r) = Err r
verdict_on n (whole t) = Ok (first_pair n t.sends t.lists)

unfoldable pub verdict : List ℕ → Verdict
verdict trace = verdict_on (count_of trace) (reading trace)

-- "Where an answer is an enum, a definition gives this paper's number and values for each of its cases": the number, 0 if no record is refused; and the pair that
-- breaks, if there is one, "by process and index of the near end, then of the far end".
pub record Pair : Type 0 where
  pub near : ℕ
  pub near_index : ℕ
  pub far : ℕ
  pub far_index : ℕ

pub record JudgeReport : Type 0 where
  pub refused : ℕ
  pub pair : Option Pair

unfoldable pub judge_report : Verdict → JudgeReport
judge_report (Err r) = record { refused = number r; pair = None }
judge_report (Ok None) = record { refused = 0; pair = None }
judge_report (Ok (Some w)) = record {
  refused = 0;
  pair = Some (record { near = w.near.process; near_index = w.near.index.0; far = w.far.process; far_index = w.far.index.0 });
}

-- What it is for a verdict to be right.
unfoldable pub RightVerdict : List ℕ → Verdict → Type 0
RightVerdict trace (Err r) = reading trace ≡ refused r
RightVerdict trace (Ok None) = (t : Pattern) × (reading trace ≡ whole t) × paths.Trackable (count_of trace) t.lists
RightVerdict trace (Ok (Some w)) = (t : Pattern) × (reading trace ≡ whole t) × FirstBreaking (count_of trace) t.lists w.near.process w.near.index.0 w.far.process w.far.index.0

-- Of every trace, whatever its bytes.
abbrev pub VerdictsAreRight : Type 0
VerdictsAreRight = (trace : List ℕ) → RightVerdict trace (verdict trace)

-- "the first one refused ends the reading and its number is the result": whatever bytes stand after k records of which one is refused, left-over ones too.
abbrev pub FirstRefusalEnds : Type 0
FirstRefusalEnds = (k n : ℕ) (records rest : List ℕ) (r : Refusal) → start_refusal n ones ≡ None → length records ≡ 4 * k → length (records ++ rest) / 4 ≤ most_judged
    → read_from n empty records ≡ refused r → reading (n ∷ (records ++ rest)) ≡ refused r

-- A trace of more than 4,096 records has the verdict of its first 16,389 bytes: the first byte and 4,097 records.
abbrev pub LongTracesEnd : Type 0
LongTracesEnd = (front rest : List ℕ) → 16389 ≤ length front → verdict (front ++ rest) ≡ verdict front
