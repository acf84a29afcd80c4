-- The line of a verdict, by its number and its pair: `refused R`, `trackable` or `breaks P:K Q:X`, decimal, with a line feed; and what it is for a line to be the verdict on
-- a trace.
-- Assumes nothing.
use Rattle.std.specs.Prelude.{◌∷◌, ◌++◌, ◌<◌, Ok, Err}
use Rattle.laws.specs.Basics.{List, [], Option, None, Some, ℕ, eqb, pick}
use Rattle.model.specs.Words.{most_processes}
use Rattle.whole_runs.specs.Listing.{line_feed}
use Rattle.listing.specs.Lines.{pair_text}
use Rattle.machines.specs.programs.Texts.{figure_text, refused_name}
use Rattle.theory_patterns.specs.Verdicts.{Verdict, Pair, JudgeReport, judge_report}

-- "trackable" and "breaks", byte by byte.
abbrev pub trackable_word : List ℕ
trackable_word = 116 ∷ 114 ∷ 97 ∷ 99 ∷ 107 ∷ 97 ∷ 98 ∷ 108 ∷ 101 ∷ []

abbrev pub breaks_word : List ℕ
breaks_word = 98 ∷ 114 ∷ 101 ∷ 97 ∷ 107 ∷ 115 ∷ []

-- What is said of a trace that is not refused: the pair that breaks it, if there is one.
unfoldable pub breaks_text : Option Pair → List ℕ
breaks_text None = trackable_word ++ (line_feed ∷ [])
breaks_text (Some w) = breaks_word ++ (pair_text w.near w.near_index ++ (pair_text w.far w.far_index ++ (line_feed ∷ [])))

-- The number, where it is not 0.
unfoldable pub report_text : JudgeReport → List ℕ
report_text r = pick (eqb r.refused 0) (breaks_text r.pair) (figure_text refused_name r.refused)

unfoldable pub verdict_text : Verdict → List ℕ
verdict_text v = report_text (judge_report v)

-- The processes of a pair are among 16.
unfoldable pub Small : Verdict → Type 0
Small (Err why) = Unit {0}
Small (Ok None) = Unit {0}
Small (Ok (Some w)) = (w.near.process < most_processes) × (w.far.process < most_processes)

-- No line is longer.
abbrev pub longest_verdict : ℕ
longest_verdict = 96
