-- `words_line::through::is_before_some` meets its contract. The loop's invariant: whether the checkpoint comes before a state passed so far.
-- Assumes nothing.
use Rattle.std.specs.Prelude.{◌≡◌, ◌+◌, ◌-◌, ◌≤◌}
use Rattle.laws.specs.Basics.{◌∙◌, ap, arith, ltb, get_or, rules}
use Rattle.laws.specs.{Loops.any_zero, Search.any_below}
use Rattle.model.specs.declared.Interval.{Interval}
use Rattle.words.specs.Layout.{word}
use Rattle.words_line.specs.Through.{before_some}
use Rattle.words_line.proofs.{Iterations.any_or}
use Rattle.words_line.proofs.through.is_before_some.Given as goal

abbrev pub invariant-loop-k : goal.invariant-loop-k
invariant-loop-k l = (l.k ≤ l.m) × (l.any ≡ any_below l.k (λ j. ltb l.index (word l.w (get_or l.starts j 0 + l.p))))
