-- The numbers of a state, put one after the other.
-- Assumes nothing.
use Rattle.std.specs.Prelude.{◌≡◌, ◌∷◌, ◌≤◌}
use Rattle.laws.specs.Basics.{refl, List, [], ℕ, arith, length, set}
use Rattle.machine_console.specs.declared.marks.Marks.{Marks}
use Rattle.machine_console.specs.Lent.{marks_of}

pub all_put : (l : List ℕ) (m : Marks) → 4 ≤ length l → marks_of (set (set (set (set l 0 m.phase) 1 m.done) 2 m.kept) 3 m.size) ≡ m
unfolding marks_of
all_put [] m h = absurd (omega (arith, h))
all_put (a ∷ []) m h = absurd (omega (arith, h))
all_put (a ∷ b ∷ []) m h = absurd (omega (arith, h))
all_put (a ∷ b ∷ c ∷ []) m h = absurd (omega (arith, h))
all_put (a ∷ b ∷ c ∷ d ∷ l) m h = refl
