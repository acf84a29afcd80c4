-- Named checkpoints as pairs of numbers, for the call in place.
-- Assumes nothing.
use Rattle.std.specs.Prelude.{◌≡◌}
use Rattle.laws.specs.Basics.{true, List, ℕ}
use Rattle.model.specs.{declared.Named.Named, declared.Run.Run, Sound.sound}
use Rattle.whole_runs.specs.Earliest.{earliest_outcome}

-- The call says the same of both lists, whatever sound state and lent list it is given.
unfoldable pub SameLine : List Named → List Named → Type 0
SameLine l m = (s : Run) → sound s ≡ true → (line : List ℕ) → earliest_outcome s m line ≡ earliest_outcome s l line
