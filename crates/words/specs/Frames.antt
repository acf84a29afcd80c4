-- What stays of words when a call changes one thing in them: v is what it leaves of w. Each word that is not named here is as it was.
-- Assumes nothing.
use Rattle.std.specs.Prelude.{◌≡◌, ◌+◌, ◌≤◌, ◌<◌}
use Rattle.laws.specs.Basics.{List, ℕ, length}
use Rattle.words.specs.Layout.{word, kept_count_at_of, mark_at, part_at}

-- Only process p has changed: how many checkpoints it keeps, its mark, the 320 words of its part. Its block count stays.
pub record OnlyProcess (w v : List ℕ) (p : ℕ) : Type 0 where
  pub size : length v ≡ length w
  pub front : (k : ℕ) → k < 64 → (k ≡ kept_count_at_of p → ⊥) → (k ≡ mark_at p → ⊥) → word v k ≡ word w k
  pub lower : (k : ℕ) → 64 ≤ k → k < part_at p → word v k ≡ word w k
  pub upper : (k : ℕ) → part_at p + 320 ≤ k → word v k ≡ word w k

-- Only the messages have changed: how many are under way (word 1), the last number used (2 and 3), the end of the places in use (12), the 64 places.
pub record OnlyMessages (w v : List ℕ) : Type 0 where
  pub size : length v ≡ length w
  pub count : word v 0 ≡ word w 0
  pub disk : (k : ℕ) → 4 ≤ k → k < 12 → word v k ≡ word w k
  pub rest : (k : ℕ) → 13 ≤ k → k < 5184 → word v k ≡ word w k

-- Only the blocks written and deleted have changed (words 4 to 11).
pub record OnlyDisk (w v : List ℕ) : Type 0 where
  pub size : length v ≡ length w
  pub front : (k : ℕ) → k < 4 → word v k ≡ word w k
  pub rest : (k : ℕ) → 12 ≤ k → word v k ≡ word w k
