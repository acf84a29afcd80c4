-- A receipt on the rows of its process, in the order in which the functions compute it: `stores` says whether a checkpoint is stored first, as by a delivery that
-- forces one.
-- Assumes nothing.
use Rattle.std.specs.Prelude.{◌∷◌, ◌++◌, Some}
use Rattle.laws.specs.Basics.{Bool, List, [], ℕ, set, pick}
use Rattle.laws.specs.Lists.{select}
use Rattle.model.specs.Shapes.{Pin}
use Rattle.model.specs.declared.{Interval.Interval, CheckpointIndex.CheckpointIndex, Checkpoint.Checkpoint}
use Rattle.model.specs.{Words.is_pinned, Steps.advanced, Steps.taken_vector, Steps.taken_pins}

-- the vector and the pins once the checkpoint is stored
unfoldable pub vector_first : Bool → ℕ → List Interval → List Interval
vector_first stores i vector = pick stores (advanced i vector) vector

unfoldable pub pins_first : Bool → ℕ → CheckpointIndex → List Pin → List Pin
pins_first stores i index pins = pick stores (set pins i (Some index)) pins

-- the vector, the pins, and the kept checkpoints after the receipt: those that are still named, then the stored one after them
unfoldable pub vector_then : Bool → ℕ → List Interval → List Interval → List Interval
vector_then stores i vector carried = taken_vector (vector_first stores i vector) carried

unfoldable pub pins_then : Bool → ℕ → CheckpointIndex → List Interval → List Interval → List Pin → List Pin
pins_then stores i index vector carried pins = taken_pins i (vector_first stores i vector) carried (pins_first stores i index pins)

unfoldable pub kept_then_of : Bool → List Pin → List Checkpoint → Checkpoint → List Checkpoint
kept_then_of stores pins l live = pick stores (select (is_pinned pins) l ++ (live ∷ [])) (select (is_pinned pins) l)
