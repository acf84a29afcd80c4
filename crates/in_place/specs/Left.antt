-- What a call in place leaves of the words besides the run that they stand for.
-- Assumes nothing.
use Rattle.std.specs.Prelude.{◌≡◌}
use Rattle.laws.specs.Basics.{List, ℕ, length}
use Rattle.words.specs.Clean.{Clean}

-- As many words as it was lent; and where every place that is not in use held zero, every one does.
pub record Leaves (w v : List ℕ) : Type 0 where
  pub size : length v ≡ length w
  pub clean : Clean w → Clean v
