-- The step for one entry of taking a carried vector in, where the vector stands in the words.
-- Assumes nothing.
use Rattle.std.specs.Prelude.{◌+◌, ◌^◌}
use Rattle.laws.specs.Basics.{List, ℕ, pick}
use Rattle.model.specs.declared.Interval.{Interval}
use Rattle.model.specs.Words.{entry, below}
use Rattle.words.specs.Layout.{word, interval_of}

-- Note 3: "a step for each entry, ascending, which is handed the vector and the set as they stand and no older vector". The step for entry f: the entry takes the
-- greater of the two, and its bit comes to the set where it rises.
unfoldable pub taken_word : List ℕ → ℕ → List Interval → ℕ → ℕ
taken_word w at carried f = let own = interval_of (word w (at + f)) in (pick (below own (entry carried f)) (entry carried f) own).0

unfoldable pub risen_bit : List ℕ → ℕ → List Interval → ℕ → ℕ
risen_bit w at carried f = pick (below (interval_of (word w (at + f))) (entry carried f)) (2 ^ f) 0
