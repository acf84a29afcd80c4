-- `words::rows::vector::greatest` meets its contract. The loop's invariant: the entries passed so far are the greater ones, the others are as they were.
-- Assumes nothing.
use Rattle.std.specs.Prelude.{◌≡◌, ◌-◌, ◌≤◌}
use Rattle.laws.specs.Basics.{◌∙◌, arith, rules}
use Rattle.laws.specs.Loops.{set_below, below_none, below_all, step_set}
use Rattle.model.specs.Steps.{taken_entry, taken_vector}
use Rattle.words.proofs.rows.vector.greatest.Given as goal

abbrev pub invariant-loop-f : goal.invariant-loop-f
invariant-loop-f l = (l.f ≤ 16) × (l.most ≡ set_below l.f (taken_entry l.a l.b) l.initial.most)
