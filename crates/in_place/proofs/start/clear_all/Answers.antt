-- `in_place::start::clear_all` meets its contract. Assumes nothing.
use Rattle.std.specs.Prelude.{◌≡◌, ◌+◌, ◌-◌, ◌≤◌}
use Rattle.laws.specs.Basics.{refl, sym, ◌∙◌, ap, ℕ, arith, length, length-set, rules}
use Rattle.laws.specs.{Loops.set_below, Loops.below_none, Loops.step_set, Loops.below_all, Tables.table_replicate}
use Rattle.words.specs.Layout.{state_size}
use Rattle.in_place.specs.Starting.{zeros}
use Rattle.in_place.proofs.start.clear_all.Goals as goal

pub loop-k-init : goal.loop-k-init
loop-k-init c =
    (search rules, refl, below_none _ _)

pub loop-k-preserved : goal.loop-k-preserved
loop-k-preserved c =
    let l = c.loop-k in let a = c.args in (search rules, length-set l.w l.k 0 ∙ l.invariant.1, step_set (λ q. 0) a.w.now l.w l.k l.invariant.2 0 refl)

pub shape_of-w : goal.shape_of-w
shape_of-w c =
    c.loop-k.invariant.1

pub returns : goal.returns
unfolding zeros
returns c =
    let l = c.loop-k in let e : l.k ≡ 6464 = omega arith in
    l.invariant.2 ∙ ap (λ (k : ℕ). set_below k (λ q. 0) c.args.w.now) e ∙ below_all (λ q. 0) c.args.w.now state_size c.requires ∙ sym (table_replicate {A = ℕ} state_size 0)
