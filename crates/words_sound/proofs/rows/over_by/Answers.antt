-- `words_sound::rows::over_by` meets its contract. Assumes nothing.
use Rattle.std.specs.Prelude.{◌≡◌, ◌-◌, ◌≤◌}
use Rattle.laws.specs.Basics.{◌∙◌, ap, ℕ, arith, get_or, rules}
use lib.Bits.{bit_or}
use Rattle.laws.specs.Loops.{set_below, below_none, step_set, below_all}
use Rattle.model.specs.Words.{entry}
use Rattle.words_sound.proofs.rows.over_by.Goals as goal

pub loop-f-init : goal.loop-f-init
loop-f-init c =
    (search rules, below_none _ _)

pub loop-f-preserved : goal.loop-f-preserved
loop-f-preserved c =
    let l = c.loop-f in let a = c.args in (search rules, step_set (λ q. bit_or (get_or a.over q 0) ((entry a.vector q).0 - (entry a.limits q).0)) _ l.then l.f l.invariant.1 _ (ap (λ (x : ℕ). bit_or (get_or a.over l.f 0) x) c.excess-more.ensures))

pub returns : goal.returns
returns c =
    let l = c.loop-f in let e : l.f ≡ 16 = omega arith in
    rw e at l.invariant.1 ∙ below_all _ _ 16 (search rules)
