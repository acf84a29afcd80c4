-- For C: the verdict on a trace of another run-time as one number; the answer to a merge; the figures of a simulation in a lent list.
-- Assumes nothing.
use Prim.{tt}
use Rattle.std.specs.Prelude.{◌∷◌, ◌+◌, ◌*◌, ◌<◌, Ok, Err}
use Rattle.laws.specs.Basics.{List, [], Option, None, Some, ℕ, ltb, length, pick}
use Rattle.model.specs.Shapes.{MergeAnswer}
use Rattle.model.specs.declared.Refusal.TheVariants.{ListTooShort}
use Rattle.whole_runs.specs.Outcomes.{written, refusing, accepting}
use Rattle.listing.specs.answers.Codes.{coded}
use Rattle.theory_merges.specs.Merge.{merge_report}
use Rattle.theory_patterns.specs.Verdicts.{Pair, JudgeReport, Verdict, judge_report}
use Rattle.theory_recording.specs.{declared.spacing.TrialFigures.TrialFigures, declared.spacing.TrialResult.TrialResult, spacing.Spacing.TrialAnswer, spacing.Spacing.simulated}
use Rattle.library_readers.specs.Readings.{Reading}

-- Bits 0 to 7 the number of the refusal, 0 if none; bit 8 whether a pair of states breaks; bits 16 to 23 the process of its near
-- end and bits 24 to 39 that end's index; bits 40 to 47 the process of its far end and bits 48 to 63 that end's index.
unfoldable pub pair_code : Option Pair → ℕ
pair_code None = 0
pair_code (Some x) = 256 + 65_536 * x.near + 16_777_216 * x.near_index + 1_099_511_627_776 * x.far + 281_474_976_710_656 * x.far_index

unfoldable pub judge_coded : JudgeReport → ℕ
judge_coded r = r.refused + pair_code r.pair

abbrev pub judge_code : Verdict → ℕ
judge_code v = judge_coded (judge_report v)

-- What the fields have room for: an index has 16 bits.
unfoldable pub PairFits : Verdict → Type 0
PairFits (Err r) = Unit {0}
PairFits (Ok None) = Unit {0}
PairFits (Ok (Some w)) = (w.near.process < 256) × (w.far.process < 256)

-- The fields of a merge's answer are those of every call's: its value says how many bytes were written.
abbrev pub merge_code : MergeAnswer → ℕ
merge_code a = coded (merge_report a) 0

-- Note 10: "deliveries, forced checkpoints, the most kept at any process after any step, and 1,000 × forced divided by deliveries as quotient and remainder"
abbrev pub figures_of : TrialFigures → List ℕ
figures_of r = r.deliveries ∷ r.forced ∷ r.most ∷ r.quotient ∷ r.remainder ∷ []

-- Refused, the lent list keeps every entry; accepted, the five figures stand at its front and the rest of it is unchanged.
unfoldable pub figures_after : TrialAnswer → List ℕ → List ℕ → Reading
figures_after (Err why) numbers lent = record { report = refusing why; list = lent }
figures_after (Ok tt) numbers lent = record { report = accepting None 0; list = written lent numbers }

abbrev pub figures_written : TrialResult → List ℕ → Reading
figures_written r lent = figures_after r.answer (figures_of r.figures) lent

-- 3, a list with fewer than five entries, is judged before 22.
unfoldable pub simulation : ℕ → ℕ → ℕ → ℕ → List ℕ → Reading
simulation n k steps seed lent = pick (ltb (length lent) 5)
    (record { report = refusing ListTooShort; list = lent })
    (figures_written (simulated n k steps seed) lent)
