-- `words_sound::rows::is_among` meets its contract: the gathered word is 0 exactly if no word so far is x. Assumes nothing.
use Rattle.std.specs.Prelude.{◌≡◌, ◌-◌, ◌≤◌}
use Rattle.laws.specs.Basics.{not, arith, eqb, get_or, rules}
use Rattle.laws.specs.Search.{any_below}
use Rattle.words_sound.proofs.{rows.Ors.any_none, rows.Ors.any_step, rows.Ors.any_end}
use Rattle.words_sound.proofs.rows.is_among.Goals as goal

pub loop-f-init : goal.loop-f-init
loop-f-init c =
    (search rules, any_none _)

pub loop-f-preserved : goal.loop-f-preserved
loop-f-preserved c =
    let l = c.loop-f in let a = c.args in (search rules, any_step (λ q. eqb (get_or a.row q 0) a.x) l.f l.any c.ones_if_same-here.result l.invariant.1 c.ones_if_same-here.ensures)

pub returns : goal.returns
returns c =
    let l = c.loop-f in let e : l.f ≡ 16 = omega arith in
    any_end _ l.any (rw e at l.invariant.1)
