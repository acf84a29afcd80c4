-- `words::clear_row` meets its contract. Assumes nothing.
use Rattle.std.specs.Prelude.{◌≡◌, ◌-◌, ◌≤◌}
use Rattle.laws.specs.Basics.{refl, arith, length, length-set, rules}
use Rattle.words.specs.Puts.{put_from}
use Rattle.words.proofs.{Reading.put_none, Reading.put_step}
use Rattle.words.proofs.clear_row.Goals as goal

pub loop-f-init : goal.loop-f-init
loop-f-init c =
    (search rules, refl, put_none _ _ _)

pub loop-f-preserved : goal.loop-f-preserved
loop-f-preserved c =
    let l = c.loop-f in let a = c.args in (search rules, simp length-set l.invariant.1, put_step a.w.now a.at (λ q. 0) l.f l.w _ l.invariant.2 refl)

pub returns : goal.returns
returns c =
    let l = c.loop-f in let e : l.f ≡ 16 = omega arith in
    rw e at l.invariant.2
