-- `words_line::through::is_among` meets its contract. The loop's invariant: whether a pair passed so far names the process.
-- Assumes nothing.
use Rattle.std.specs.Prelude.{◌≡◌, ◌-◌, ◌≤◌}
use Rattle.laws.specs.Basics.{refl, arith, eqb, rules}
use Rattle.laws.specs.{Loops.any_zero, Search.any_below}
use Rattle.words_line.specs.Through.{process_of, among_first}
use Rattle.words_line.proofs.{Iterations.any_or}
use Rattle.words_line.proofs.through.is_among.Given as goal

abbrev pub invariant-loop-k : goal.invariant-loop-k
invariant-loop-k l = (l.k ≤ l.m) × (l.any ≡ any_below l.k (λ j. eqb (process_of l.named j) l.p))
