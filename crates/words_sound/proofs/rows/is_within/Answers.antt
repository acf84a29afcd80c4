-- `words_sound::rows::is_within` meets its contract: the gathered word is 0 exactly if every entry so far is within its limit. Assumes nothing.
use Rattle.std.specs.Prelude.{◌≡◌, ◌-◌, ◌≤◌}
use Rattle.laws.specs.Basics.{refl, ◌∙◌, ap, ℕ, arith, eqb, leb, rules}
use Rattle.laws.specs.Search.{all_below}
use Rattle.model.specs.Words.{entry}
use Rattle.words_sound.proofs.{rows.Ors.or_step, rows.Ors.less_zero}
use Rattle.words_sound.proofs.rows.is_within.Goals as goal

pub loop-f-init : goal.loop-f-init
unfolding all_below
loop-f-init c =
    (search rules, refl)

pub loop-f-preserved : goal.loop-f-preserved
loop-f-preserved c =
    let l = c.loop-f in let a = c.args in (search rules, or_step (λ q. leb (entry a.vector q).0 (entry a.limits q).0) l.f l.over c.excess-more.result l.invariant.1 (ap (λ (k : ℕ). eqb k 0) c.excess-more.ensures ∙ less_zero (entry a.vector l.f).0 (entry a.limits l.f).0))

pub returns : goal.returns
returns c =
    let e : c.loop-f.f ≡ 16 = omega arith in rw e at c.loop-f.invariant.1
