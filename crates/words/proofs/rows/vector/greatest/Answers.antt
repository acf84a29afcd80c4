-- `words::rows::vector::greatest` meets its contract. The loop's invariant: the entries passed so far are the greater ones, the others are as they were.
-- Assumes nothing.
use Rattle.std.specs.Prelude.{◌≡◌, ◌-◌, ◌≤◌}
use Rattle.laws.specs.Basics.{◌∙◌, arith, rules}
use Rattle.laws.specs.Loops.{set_below, below_none, below_all, step_set}
use Rattle.model.specs.Steps.{taken_entry, taken_vector}
use Rattle.words.proofs.rows.vector.greatest.Goals as goal

pub loop-f-init : goal.loop-f-init
loop-f-init c =
    (search rules, below_none _ _)

pub loop-f-preserved : goal.loop-f-preserved
unfolding taken_entry
loop-f-preserved c =
    let a = c.args in (search rules, step_set (taken_entry a.a a.b) _ _ _ c.loop-f.invariant.1 _ c.greater-z.ensures)

pub returns : goal.returns
unfolding taken_vector
returns c =
    let e : c.loop-f.f ≡ 16 = omega arith in rw e at c.loop-f.invariant.1 ∙ below_all _ _ 16 (search rules)
