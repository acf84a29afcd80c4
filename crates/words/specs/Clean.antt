-- Every place that is not in use is zero: so words that are stored hold nothing of what was deleted. No call relies on it.
-- Assumes nothing.
use Rattle.std.specs.Prelude.{◌≡◌, ◌+◌, ◌≤◌, ◌<◌}
use Rattle.laws.specs.Basics.{false, List, ℕ}
use Rattle.model.specs.Words.{most_processes, most_under_way}
use Rattle.words.specs.Layout.{word, count_of, kept_count_at_of, mark_at, blocks_at_of, part_at, index_at_of, cause_at_of, stored_at, low_at, high_at, sender_at_of, receiver_at_of, carried_at}
use Rattle.words.specs.Parts.{is_used_in}

-- The places of kept checkpoints after those that process p keeps.
pub record CleanKept (w : List ℕ) (p : ℕ) : Type 0 where
  pub index : (k : ℕ) → word w (kept_count_at_of p) ≤ k → k < most_processes → word w (index_at_of p k) ≡ 0
  pub cause : (k : ℕ) → word w (kept_count_at_of p) ≤ k → k < most_processes → word w (cause_at_of p k) ≡ 0
  pub vector : (k f : ℕ) → word w (kept_count_at_of p) ≤ k → k < most_processes → f < most_processes → word w (stored_at p k + f) ≡ 0

-- The places of messages that are not in use.
pub record CleanMessages (w : List ℕ) : Type 0 where
  pub low : (k : ℕ) → k < most_under_way → is_used_in w k ≡ false → word w (low_at k) ≡ 0
  pub high : (k : ℕ) → k < most_under_way → is_used_in w k ≡ false → word w (high_at k) ≡ 0
  pub sender : (k : ℕ) → k < most_under_way → is_used_in w k ≡ false → word w (sender_at_of k) ≡ 0
  pub receiver : (k : ℕ) → k < most_under_way → is_used_in w k ≡ false → word w (receiver_at_of k) ≡ 0
  pub vector : (k f : ℕ) → k < most_under_way → f < most_processes → is_used_in w k ≡ false → word w (carried_at k + f) ≡ 0

pub record Clean (w : List ℕ) : Type 0 where
  -- "Words 13 to 15 are not used."
  pub spare : (k : ℕ) → 13 ≤ k → k < 16 → word w k ≡ 0
  -- Nor is anything of a process at n or above.
  pub kept_count : (p : ℕ) → count_of w ≤ p → p < most_processes → word w (kept_count_at_of p) ≡ 0
  pub mark : (p : ℕ) → count_of w ≤ p → p < most_processes → word w (mark_at p) ≡ 0
  pub blocks : (p : ℕ) → count_of w ≤ p → p < most_processes → word w (blocks_at_of p) ≡ 0
  pub part : (p k : ℕ) → count_of w ≤ p → p < most_processes → k < 320 → word w (part_at p + k) ≡ 0
  pub kept : (p : ℕ) → p < count_of w → CleanKept w p
  pub messages : CleanMessages w
