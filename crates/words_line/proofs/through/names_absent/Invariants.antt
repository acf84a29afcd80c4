-- `words_line::through::names_absent` meets its contract. The loop's invariant: whether a pair passed so far names a process that is not below n.
-- Assumes nothing.
use Rattle.std.specs.Prelude.{◌≡◌, ◌-◌, ◌≤◌}
use Rattle.laws.specs.Basics.{refl, arith, leb, rules}
use Rattle.laws.specs.{Loops.any_zero, Search.any_below}
use Rattle.words_line.specs.Through.{process_of}
use Rattle.words_line.proofs.{Iterations.any_or}
use Rattle.words_line.proofs.through.names_absent.Given as goal

abbrev pub invariant-loop-k : goal.invariant-loop-k
invariant-loop-k l = (l.k ≤ l.m) × (l.any ≡ any_below l.k (λ j. leb l.n (process_of l.named j)))
