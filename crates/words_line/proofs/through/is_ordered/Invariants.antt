-- `words_line::through::is_ordered` meets its contract. The loop's invariant: whether a checkpoint passed so far comes before one of the states.
-- Assumes nothing.
use Rattle.std.specs.Prelude.{◌≡◌, ◌-◌, ◌≤◌}
use Rattle.laws.specs.Basics.{arith, rules}
use Rattle.laws.specs.{Loops.any_zero, Search.any_below}
use Rattle.words_line.specs.Through.{process_of, index_of_def, before_some}
use Rattle.words_line.proofs.{Iterations.any_or}
use Rattle.words_line.proofs.through.is_ordered.Given as goal

abbrev pub invariant-loop-k : goal.invariant-loop-k
invariant-loop-k l = (l.k ≤ l.m) × (l.any ≡ any_below l.k (λ j. before_some l.w l.starts l.m (process_of l.named j) (index_of_def l.named j)))
