-- `words_sound::rows::without` meets its contract. Assumes nothing.
use Rattle.std.specs.Prelude.{◌≡◌, ◌-◌, ◌≤◌}
use Rattle.laws.specs.Basics.{◌∙◌, arith, eqb, get_or, rules, pick}
use Rattle.laws.specs.Loops.{set_below, below_none, step_set, below_all}
use Rattle.words_sound.proofs.rows.without.Goals as goal

pub loop-f-init : goal.loop-f-init
loop-f-init c =
    (search rules, below_none _ _)

pub loop-f-preserved : goal.loop-f-preserved
loop-f-preserved c =
    let l = c.loop-f in let a = c.args in (search rules, step_set (λ q. pick (eqb (get_or a.row q 0) a.x) 0 (get_or a.left q 0)) _ l.then l.f l.invariant.1 _ c.unless_same-here.ensures)

pub returns : goal.returns
returns c =
    let l = c.loop-f in let e : l.f ≡ 16 = omega arith in
    rw e at l.invariant.1 ∙ below_all _ _ 16 (search rules)
