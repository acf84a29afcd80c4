-- `words_line::earliest::pairs::numbers_of` meets its contract. The loop's invariant: the pairs so far are the elements so far.
-- Assumes nothing.
use Rattle.std.specs.Prelude.{◌≡◌, ◌-◌, ◌≤◌, ◌<◌}
use Rattle.laws.specs.Basics.{refl, ℕ, arith, length, get_or, rules}
use Rattle.words_line.specs.{Through.named_at, earliest.Copying.no_named}
use Rattle.words_line.proofs.{earliest.Naming.pair_more}
use Rattle.words_line.proofs.earliest.pairs.numbers_of.Given as goal

abbrev pub invariant-loop-k : goal.invariant-loop-k
invariant-loop-k l = (l.k ≤ l.m) × (length l.numbers ≡ 34) × ((j : ℕ) → j < l.k → named_at l.numbers j ≡ get_or l.named j no_named)
