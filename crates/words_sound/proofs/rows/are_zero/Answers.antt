-- `words_sound::rows::are_zero` meets its contract: the gathered word is 0 exactly if every word so far is. Assumes nothing.
use Rattle.std.specs.Prelude.{◌≡◌, ◌&&◌, ◌-◌, ◌≤◌}
use Rattle.laws.specs.Basics.{refl, arith, eqb, get_or, rules}
use lib.Bits.{bit_or}
use Rattle.laws.specs.Search.{all_below}
use Rattle.words_sound.proofs.{rows.Ors.or_zero, rows.Ors.or_step}
use Rattle.words_sound.proofs.rows.are_zero.Goals as goal

pub loop-f-init : goal.loop-f-init
unfolding all_below
loop-f-init c =
    (search rules, refl)

pub loop-f-preserved : goal.loop-f-preserved
loop-f-preserved c =
    let l = c.loop-f in let a = c.args in (search rules, or_step (λ q. eqb (get_or a.a q 0) 0 && eqb (get_or a.b q 0) 0) l.f l.any (bit_or (get_or a.a l.f 0) (get_or a.b l.f 0)) l.invariant.1 (or_zero (get_or a.a l.f 0) (get_or a.b l.f 0)))

pub returns : goal.returns
returns c =
    let e : c.loop-f.f ≡ 16 = omega arith in rw e at c.loop-f.invariant.1
