-- A text printed into a lent buffer from a place on: what the buffer then holds, and where the next byte goes.
-- Assumes nothing.
use Rattle.std.specs.Prelude.{◌≡◌, ◌+◌, ◌≤◌}
use Rattle.laws.specs.Basics.{List, ℕ, length, sets}

-- The text fits between the place and the buffer's end.
abbrev pub Room : List ℕ → ℕ → List ℕ → Type 0
Room out at text = at + length text ≤ length out

pub record Printed (before : List ℕ) (at : ℕ) (text : List ℕ) (after : List ℕ) (next : ℕ) : Type 0 where
  pub next_place : next ≡ at + length text
  pub holds : after ≡ sets before at text
