-- The numbers of a state, put one after the other.
-- Assumes nothing.
use Rattle.std.specs.Prelude.{◌≡◌, ◌∷◌, ◌≤◌}
use Rattle.laws.specs.Basics.{refl, List, [], ℕ, arith, length, set}
use Rattle.machine_record.specs.declared.marks.Marks.{Marks}
use Rattle.machine_record.specs.Lent.{marks_of}

pub all_put : (l : List ℕ) (m : Marks) → 6 ≤ length l → marks_of (set (set (set (set (set (set l 0 m.phase) 1 m.left) 2 m.done) 3 m.kept) 4 m.size) 5 m.pending) ≡ m
unfolding marks_of
all_put [] m h = absurd (omega (arith, h))
all_put (a ∷ []) m h = absurd (omega (arith, h))
all_put (a ∷ b ∷ []) m h = absurd (omega (arith, h))
all_put (a ∷ b ∷ c ∷ []) m h = absurd (omega (arith, h))
all_put (a ∷ b ∷ c ∷ d ∷ []) m h = absurd (omega (arith, h))
all_put (a ∷ b ∷ c ∷ d ∷ e ∷ []) m h = absurd (omega (arith, h))
all_put (a ∷ b ∷ c ∷ d ∷ e ∷ f ∷ l) m h = refl
