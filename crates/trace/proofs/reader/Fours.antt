-- Bytes by whether they are four or more: a record at the front, or one to three left over, or none.
-- Assumes nothing.
use Rattle.std.specs.Prelude.{◌∷◌, ◌≤◌, ◌<◌}
use Rattle.laws.specs.Basics.{List, [], ℕ, arith, length}

pub at_least_four : (P : List ℕ → Type 0) → ((a b c d : ℕ) (l : List ℕ) → P (a ∷ b ∷ c ∷ d ∷ l)) → (l : List ℕ) → 4 ≤ length l → P l
at_least_four P four [] h = absurd (omega arith)
at_least_four P four (a ∷ []) h = absurd (omega arith)
at_least_four P four (a ∷ b ∷ []) h = absurd (omega arith)
at_least_four P four (a ∷ b ∷ c ∷ []) h = absurd (omega arith)
at_least_four P four (a ∷ b ∷ c ∷ d ∷ l) h = four a b c d l

pub under_four : (P : List ℕ → Type 0) → P [] → ((a : ℕ) → P (a ∷ [])) → ((a b : ℕ) → P (a ∷ b ∷ [])) → ((a b c : ℕ) → P (a ∷ b ∷ c ∷ [])) → (l : List ℕ) → length l < 4 → P l
under_four P none one two three [] h = none
under_four P none one two three (a ∷ []) h = one a
under_four P none one two three (a ∷ b ∷ []) h = two a b
under_four P none one two three (a ∷ b ∷ c ∷ []) h = three a b c
under_four P none one two three (a ∷ b ∷ c ∷ d ∷ l) h = absurd (omega arith)
