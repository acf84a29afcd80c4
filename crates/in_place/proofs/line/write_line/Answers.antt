-- `in_place::line::write_line` meets its contract. The loop's invariant: the indexes passed so far are written, and nothing else in the lent list has changed.
-- Assumes nothing.
use Rattle.std.specs.Prelude.{◌≡◌, ◌-◌, ◌≤◌}
use Rattle.laws.specs.Basics.{refl, ◌∙◌, arith, length, get_or, length-set, rules}
use Rattle.laws.specs.{Below.below_written, Loops.set_below, Loops.below_none, Loops.step_set}
use Rattle.in_place.proofs.line.write_line.Goals as goal

pub loop-p-init : goal.loop-p-init
loop-p-init c =
    (search rules, refl, below_none _ _)

pub loop-p-preserved : goal.loop-p-preserved
loop-p-preserved c =
    let l = c.loop-p in (
      search rules,
      simp length-set l.invariant.1,
      step_set (λ q. (get_or c.args.indexes q (record { 0 = 0 })).0) c.args.line.now l.line l.p l.invariant.2 _ refl,
    )

pub returns : goal.returns
returns c =
    let l = c.loop-p in let e : l.p ≡ c.args.n = omega arith in
    rw e at l.invariant.2 ∙ below_written _ _ _
