-- `words_sound::rows::is_zero` meets its contract: the gathered word is 0 exactly if every word so far is. Assumes nothing.
use Rattle.std.specs.Prelude.{◌≡◌, ◌-◌, ◌≤◌}
use Rattle.laws.specs.Basics.{refl, arith, eqb, get_or, rules}
use Rattle.laws.specs.Search.{all_below}
use Rattle.words_sound.proofs.{rows.Ors.or_step}
use Rattle.words_sound.proofs.rows.is_zero.Goals as goal

pub loop-f-init : goal.loop-f-init
unfolding all_below
loop-f-init c =
    (search rules, refl)

pub loop-f-preserved : goal.loop-f-preserved
loop-f-preserved c =
    let l = c.loop-f in let a = c.args in (search rules, or_step (λ q. eqb (get_or a.row q 0) 0) l.f l.any (get_or a.row l.f 0) l.invariant.1 refl)

pub returns : goal.returns
returns c =
    let e : c.loop-f.f ≡ 16 = omega arith in rw e at c.loop-f.invariant.1
