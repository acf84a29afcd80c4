-- `words_sound::rows::row_over` meets its contract. Assumes nothing.
use Rattle.std.specs.Prelude.{◌≡◌, ◌-◌, ◌≤◌}
use Rattle.laws.specs.Basics.{◌∙◌, arith, get_or, rules}
use Rattle.laws.specs.Loops.{set_below, below_none, step_set, below_all}
use Rattle.words_sound.proofs.rows.row_over.Goals as goal

pub loop-f-init : goal.loop-f-init
loop-f-init c =
    (search rules, below_none _ _)

pub loop-f-preserved : goal.loop-f-preserved
loop-f-preserved c =
    let l = c.loop-f in let a = c.args in (search rules, step_set (λ q. get_or a.row q 0 - get_or a.limits q 0) _ l.over l.f l.invariant.1 _ c.excess-more.ensures)

pub returns : goal.returns
returns c =
    let l = c.loop-f in let e : l.f ≡ 16 = omega arith in
    rw e at l.invariant.1 ∙ below_all _ _ 16 (search rules)
