-- The pins of one process as a row of words.
-- Assumes nothing.
use Rattle.std.specs.Prelude.{◌||◌}
use Rattle.laws.specs.Basics.{Bool, List, ℕ, eqb, get_or, pick}
use Rattle.laws.specs.Lists.{table}
use Rattle.model.specs.Shapes.{Pin}
use Rattle.model.specs.Words.{most_processes, in_set}
use Rattle.words.specs.Layout.{pin_of_def}

-- The pins that a row of words stands for.
unfoldable pub pin_row : List ℕ → List Pin
pin_row r = table most_processes (λ f. pin_of_def (get_or r f 0))

-- "that entry's pin becomes the own pin": the pins of a set moved to one word.
unfoldable pub moved_row : (ℕ → Bool) → List ℕ → ℕ → List ℕ
moved_row moves r new = table most_processes (λ f. pick (moves f) new (get_or r f 0))

-- The pins that a receipt moves to the own pin: those of the entries that rose, and the own pin itself, which a checkpoint may have moved first.
unfoldable pub risen_or_own : ℕ → ℕ → ℕ → Bool
risen_or_own rose i f = in_set rose f || eqb f i
