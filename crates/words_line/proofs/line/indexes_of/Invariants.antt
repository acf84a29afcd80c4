-- `words_line::line::indexes_of` meets its contract. The loop's invariant: the indexes of the processes passed so far stand.
-- Assumes nothing.
use Rattle.std.specs.Prelude.{◌≡◌, ◌-◌, ◌≤◌}
use Rattle.laws.specs.Basics.{arith, get_or, rules}
use Rattle.laws.specs.Loops.{set_below, below_none, step_set}
use Rattle.words_line.specs.Line.{index_in_of, indexes_in}
use Rattle.words_line.proofs.line.indexes_of.Given as goal

abbrev pub invariant-loop-p : goal.invariant-loop-p
invariant-loop-p l = (l.p ≤ l.n) × (l.indexes ≡ set_below l.p (λ q. index_in_of l.w q (get_or l.pasts q 0)) l.initial.indexes)
