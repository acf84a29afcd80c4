-- `words_line::through::names_twice` meets its contract. The loop's invariant: whether a pair passed so far names a process that one before it names.
-- Assumes nothing.
use Rattle.std.specs.Prelude.{◌≡◌, ◌-◌, ◌≤◌}
use Rattle.laws.specs.Basics.{arith, rules}
use Rattle.laws.specs.{Loops.any_zero, Search.any_below}
use Rattle.words_line.specs.Through.{process_of, among_first, twice_in}
use Rattle.words_line.proofs.{Iterations.any_or}
use Rattle.words_line.proofs.through.names_twice.Given as goal

abbrev pub invariant-loop-k : goal.invariant-loop-k
invariant-loop-k l = (l.k ≤ l.m) × (l.any ≡ any_below l.k (λ j. among_first l.named j (process_of l.named j)))
