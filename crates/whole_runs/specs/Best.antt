-- The best line for a failed set, by the messages of the surviving history alone: no vector, pin, pair or state is in it. Document 01 has its sentences, and
-- document 02 its name: Note 6, "its best line, by the message definition over the surviving history".
-- Assumes nothing.
use Rattle.std.specs.Prelude.{◌≡◌, ◌≤◌, ◌<◌}
use Rattle.laws.specs.Basics.{true, ℕ}
use Rattle.model.specs.Words.{failed}
use Rattle.histories.specs.History.{Lists, Line, checkpoints, Consistent}

-- A possible line for a failed set: "A line names one state of each process: a checkpoint stored in its surviving history, deleted or not, or its live state."
-- It is a "consistent line with the failed processes at stored checkpoints".
pub record Possible (n : ℕ) (lists : Lists) (F : ℕ) (line : Line) : Type 0 where
  pub within : (p : ℕ) → p < n → line p ≤ checkpoints (lists p)
  pub consistent : Consistent n lists line
  pub back : (f : ℕ) → f < n → failed F f ≡ true → line f < checkpoints (lists f)

-- The best of them: "no other .. is later anywhere".
pub record Best (n : ℕ) (lists : Lists) (F : ℕ) (line : Line) : Type 0 where
  pub possible : Possible n lists F line
  pub latest : (other : Line) → Possible n lists F other → (p : ℕ) → p < n → other p ≤ line p

-- There is one only.
unfoldable pub OneBestLine : Type 0
OneBestLine = (n : ℕ) (lists : Lists) (F : ℕ) (line other : Line) → Best n lists F line → Best n lists F other → (p : ℕ) → p < n → line p ≡ other p

-- Checkpoint k of p is in the best line for F. A live state is no checkpoint of the list.
unfoldable pub InBestLine : ℕ → Lists → ℕ → ℕ → ℕ → Type 0
InBestLine n lists F p k = (line : Line) × Best n lists F line × (line p ≡ k) × (k < checkpoints (lists p))
