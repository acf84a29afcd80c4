-- What programs print alike: a name and a number in one line, and the line of a refusal. Numbers are decimal.
-- Assumes nothing.
use Rattle.std.specs.Prelude.{◌∷◌, ◌++◌}
use Rattle.laws.specs.Basics.{List, [], ℕ}
use Rattle.model.specs.declared.Refusal.{Refusal}
use Rattle.model.specs.Refusals.{number}
use Rattle.whole_runs.specs.Listing.{decimal, space, line_feed}

-- A name and its figure: one line.
unfoldable pub figure_text : List ℕ → ℕ → List ℕ
figure_text name x = name ++ (decimal x ++ (line_feed ∷ []))

-- "refused ", byte by byte.
abbrev pub refused_name : List ℕ
refused_name = 114 ∷ 101 ∷ 102 ∷ 117 ∷ 115 ∷ 101 ∷ 100 ∷ space ∷ []

-- `refused R`
unfoldable pub refused_text : Refusal → List ℕ
refused_text why = figure_text refused_name (number why)

-- No number has more than 20 digits: that many bytes at most are printed after a name, and for a refusal.
abbrev pub longest_figure : ℕ
longest_figure = 21

abbrev pub longest_refusal : ℕ
longest_refusal = 29
