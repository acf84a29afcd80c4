-- Words that a call leaves as they were.
-- Assumes nothing.
use Rattle.laws.specs.Basics.{refl, List, ℕ}
use Rattle.in_place.specs.Left.{Leaves}

pub same_words : (w : List ℕ) → Leaves w w
same_words w = record { size = refl; clean = λ c. c }
