-- The checkpoints that one process keeps, in their 16 places of the words: one stored, one moved, places made unused, and what collecting leaves.
-- Assumes nothing.
use Rattle.std.specs.Prelude.{◌≡◌, ◌∷◌, ◌+◌, ◌*◌, ◌≤◌, ◌<◌}
use Rattle.laws.specs.Basics.{true, List, [], ℕ, length}
use Rattle.laws.specs.Lists.{select, table}
use Rattle.model.specs.Shapes.{Pin}
use Rattle.model.specs.{declared.Interval.Interval, declared.CheckpointIndex.CheckpointIndex, Words.is_pinned, Words.most_processes}
use Rattle.words.specs.Layout.{word, index_at_of, cause_at_of, stored_at, row_in, checkpoint_in}
use Rattle.words.specs.Puts.{Put, puts, one, row_put, vector_put, zero_put}

-- A checkpoint put into place k of process p.
abbrev pub stored_puts : ℕ → ℕ → CheckpointIndex → ℕ → List Interval → List Put
stored_puts p k index cause vector = one (index_at_of p k) (index.0 + 1) ∷ one (cause_at_of p k) cause ∷ vector_put (stored_at p k) vector ∷ []

-- What stands in one place put into another.
abbrev pub moved_puts : List ℕ → ℕ → ℕ → ℕ → List Put
moved_puts w p from to = one (index_at_of p to) (word w (index_at_of p from)) ∷ one (cause_at_of p to) (word w (cause_at_of p from)) ∷ row_put (stored_at p to) (row_in w (stored_at p from)) ∷ []

unfoldable pub moved_up : List ℕ → ℕ → ℕ → ℕ → List ℕ
moved_up w p from to = puts w (moved_puts w p from to)

-- Place k made unused.
abbrev pub cleared_puts : ℕ → ℕ → List Put
cleared_puts p k = one (index_at_of p k) 0 ∷ one (cause_at_of p k) 0 ∷ zero_put (stored_at p k) ∷ []

-- Each of the first n places of process p is in use.
unfoldable pub Used : List ℕ → ℕ → ℕ → Type 0
Used w p n = (k : ℕ) → k < n → 1 ≤ word w (index_at_of p k)

-- A pin names each of the first n checkpoints of process p.
unfoldable pub AllPinned : List ℕ → ℕ → List Pin → ℕ → Type 0
AllPinned w p pins n = (k : ℕ) → k < n → is_pinned pins (checkpoint_in w p k) ≡ true

-- Only the 16 places of kept checkpoints of process p have changed.
pub record OnlyKept (w : List ℕ) (p : ℕ) (v : List ℕ) : Type 0 where
  pub size : length v ≡ length w
  pub lower : (q : ℕ) → q < 96 + 320 * p → word v q ≡ word w q
  pub upper : (q : ℕ) → 384 + 320 * p ≤ q → word v q ≡ word w q

-- Place k of the one holds what place j of the other does; place k holds zero.
pub record SamePlace (w : List ℕ) (p k : ℕ) (v : List ℕ) (j : ℕ) : Type 0 where
  pub index : word v (index_at_of p j) ≡ word w (index_at_of p k)
  pub cause : word v (cause_at_of p j) ≡ word w (cause_at_of p k)
  pub vector : (f : ℕ) → f < most_processes → word v (stored_at p j + f) ≡ word w (stored_at p k + f)

pub record ZeroPlace (w : List ℕ) (p k : ℕ) : Type 0 where
  pub index : word w (index_at_of p k) ≡ 0
  pub cause : word w (cause_at_of p k) ≡ 0
  pub vector : (f : ℕ) → f < most_processes → word w (stored_at p k + f) ≡ 0

-- v is w with the places from one up to another made unused.
pub record Cleared (w : List ℕ) (p from to : ℕ) (v : List ℕ) : Type 0 where
  pub only : OnlyKept w p v
  pub before : (k : ℕ) → k < from → SamePlace w p k v k
  pub zero : (k : ℕ) → from ≤ k → k < to → ZeroPlace v p k
  pub after : (k : ℕ) → to ≤ k → k < most_processes → SamePlace w p k v k

-- v is w with those of the first n checkpoints that a pin names moved to the first places, which are `stay`; the places from n on are as they were.
pub record Split (w : List ℕ) (p n : ℕ) (pins : List Pin) (v : List ℕ) (stay : ℕ) : Type 0 where
  pub only : OnlyKept w p v
  pub most : stay ≤ n
  pub front : table stay (checkpoint_in v p) ≡ select (is_pinned pins) (table n (checkpoint_in w p))
  pub used : Used v p stay
  pub after : (k : ℕ) → n ≤ k → k < most_processes → SamePlace w p k v k

-- The same, where the places between are unused.
pub record Collected (w : List ℕ) (p n : ℕ) (pins : List Pin) (v : List ℕ) (stay : ℕ) : Type 0 where
  pub only : OnlyKept w p v
  pub most : stay ≤ n
  pub front : table stay (checkpoint_in v p) ≡ select (is_pinned pins) (table n (checkpoint_in w p))
  pub used : Used v p stay
  pub zero : (k : ℕ) → stay ≤ k → k < n → ZeroPlace v p k
  pub after : (k : ℕ) → n ≤ k → k < most_processes → SamePlace w p k v k
