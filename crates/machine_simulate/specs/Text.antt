-- What the program prints of a result: its five figures, each with its name, one a line, or `refused R`; the row of a table; and of four numbers, all that it prints.
-- Numbers are decimal.
-- Assumes nothing.
use Prim.{tt}
use Rattle.std.specs.Prelude.{◌∷◌, ◌++◌, ◌+◌, ◌-◌, Ok, Err}
use Rattle.laws.specs.Basics.{List, [], ℕ, zero, suc, pick}
use Rattle.model.specs.declared.Refusal.TheVariants.{TrialOutsideRange}
use Rattle.whole_runs.specs.Listing.{decimal, space, line_feed}
use Rattle.machines.specs.{programs.Numbers.at_most, programs.Texts.figure_text, programs.Texts.refused_text}
use Rattle.theory_recording.specs.spacing.Spacing.{TrialAnswer, simulated}
use Rattle.theory_recording.specs.declared.{spacing.TrialFigures.TrialFigures, spacing.TrialResult.TrialResult}
use Rattle.machine_simulate.specs.declared.arguments.Numbers.{Numbers}
use Rattle.machine_simulate.specs.Arguments.{is_wrong_of, is_refused}

-- "deliveries ", "forced ", "most-kept ", "forced-per-thousand-deliveries " and "remainder ", byte by byte.
abbrev pub deliveries_name : List ℕ
deliveries_name = 100 ∷ 101 ∷ 108 ∷ 105 ∷ 118 ∷ 101 ∷ 114 ∷ 105 ∷ 101 ∷ 115 ∷ space ∷ []

abbrev pub forced_name : List ℕ
forced_name = 102 ∷ 111 ∷ 114 ∷ 99 ∷ 101 ∷ 100 ∷ space ∷ []

abbrev pub most_name : List ℕ
most_name = 109 ∷ 111 ∷ 115 ∷ 116 ∷ 45 ∷ 107 ∷ 101 ∷ 112 ∷ 116 ∷ space ∷ []

abbrev pub quotient_name : List ℕ
quotient_name = 102 ∷ 111 ∷ 114 ∷ 99 ∷ 101 ∷ 100 ∷ 45 ∷ 112 ∷ 101 ∷ 114 ∷ 45 ∷ 116 ∷ 104 ∷ 111 ∷ 117 ∷ 115 ∷ 97 ∷ 110 ∷ 100 ∷ 45 ∷ 100 ∷ 101 ∷ 108 ∷ 105 ∷ 118 ∷ 101 ∷ 114 ∷ 105 ∷ 101 ∷ 115 ∷ space ∷ []

abbrev pub remainder_name : List ℕ
remainder_name = 114 ∷ 101 ∷ 109 ∷ 97 ∷ 105 ∷ 110 ∷ 100 ∷ 101 ∷ 114 ∷ space ∷ []

unfoldable pub figures_text : TrialFigures → List ℕ
figures_text r = figure_text deliveries_name r.deliveries
    ++ (figure_text forced_name r.forced ++ (figure_text most_name r.most ++ (figure_text quotient_name r.quotient ++ figure_text remainder_name r.remainder)))

-- What is printed of an answer, where `text` are its figures.
unfoldable pub answer_text : TrialAnswer → List ℕ → List ℕ
answer_text (Err why) text = refused_text why
answer_text (Ok tt) text = text

unfoldable pub result_text : TrialResult → List ℕ
result_text r = answer_text r.answer (figures_text r.figures)

-- The spacing and the five figures, single spaces between.
unfoldable pub row_text : ℕ → TrialResult → List ℕ
row_text spacing r =
    let f = r.figures in
    decimal spacing
    ++ ((space ∷ decimal f.deliveries) ++ ((space ∷ decimal f.forced) ++ ((space ∷ decimal f.most)
    ++ ((space ∷ decimal f.quotient) ++ ((space ∷ decimal f.remainder) ++ (line_feed ∷ []))))))

-- No name is longer than 31 bytes, no number than 20; so no line is longer than 52, and neither five lines nor a row than this.
abbrev pub longest_text : ℕ
longest_text = 260

-- The first line of a table: "# spacing deliveries forced most-kept forced-per-thousand-deliveries remainder" and a line feed, byte by byte.
abbrev pub head_line : List ℕ
head_line = 35 ∷ 32 ∷ 115 ∷ 112 ∷ 97 ∷ 99 ∷ 105 ∷ 110 ∷ 103 ∷ 32 ∷ 100 ∷ 101 ∷ 108 ∷ 105 ∷ 118 ∷ 101 ∷ 114 ∷ 105 ∷ 101 ∷ 115 ∷ 32 ∷ 102 ∷ 111 ∷ 114 ∷ 99 ∷ 101 ∷ 100 ∷ 32 ∷ 109 ∷ 111 ∷ 115 ∷ 116 ∷ 45 ∷ 107 ∷ 101 ∷ 112 ∷ 116 ∷ 32 ∷ 102 ∷ 111 ∷ 114 ∷ 99 ∷ 101 ∷ 100 ∷ 45 ∷ 112 ∷ 101 ∷ 114 ∷ 45 ∷ 116 ∷ 104 ∷ 111 ∷ 117 ∷ 115 ∷ 97 ∷ 110 ∷ 100 ∷ 45 ∷ 100 ∷ 101 ∷ 108 ∷ 105 ∷ 118 ∷ 101 ∷ 114 ∷ 105 ∷ 101 ∷ 115 ∷ 32 ∷ 114 ∷ 101 ∷ 109 ∷ 97 ∷ 105 ∷ 110 ∷ 100 ∷ 101 ∷ 114 ∷ 10 ∷ []

-- The simulation that numbers ask for. Every number that 32 bits do not hold is out of range, as the greatest of 32 bits is.
unfoldable pub trial_of : ℕ → ℕ → ℕ → ℕ → TrialResult
trial_of n spacing steps seed = simulated (at_most n) (at_most spacing) (at_most steps) (at_most seed)

-- That many rows, the first for this spacing; each spacing is one more than the last.
unfoldable pub rows_text : ℕ → ℕ → ℕ → ℕ → ℕ → List ℕ
rows_text n steps seed zero spacing = []
rows_text n steps seed (suc left) spacing = row_text spacing (trial_of n spacing steps seed) ++ rows_text n steps seed left (spacing + 1)

-- The rows of all spacings from the first to the last.
unfoldable pub rows_of : Numbers → List ℕ
rows_of k = rows_text k.n k.steps k.seed (k.spacings.to + 1 - k.spacings.from) k.spacings.from

unfoldable pub table_text : Numbers → List ℕ
table_text k = pick (is_refused k.n k.spacings.from k.spacings.to k.steps) (refused_text TrialOutsideRange) (head_line ++ rows_of k)

-- All that is printed of four numbers; nothing where one of them is none.
unfoldable pub right_text : Numbers → List ℕ
right_text k = pick k.spacings.many (table_text k) (result_text (trial_of k.n k.spacings.from k.steps k.seed))

unfoldable pub text_of : Numbers → List ℕ
text_of k = pick (is_wrong_of k.n k.spacings k.steps k.seed) [] (right_text k)
