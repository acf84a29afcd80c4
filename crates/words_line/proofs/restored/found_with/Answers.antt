-- `words_line::restored::found_with` meets its contract. The loop's invariant: the pins passed so far stand.
-- Assumes nothing.
use Rattle.std.specs.Prelude.{◌≡◌, ◌-◌, ◌≤◌}
use Rattle.laws.specs.Basics.{refl, ◌∙◌, arith, get_or, rules, pick}
use Rattle.laws.specs.Loops.{set_below, below_none, step_set, below_all}
use Rattle.model.specs.Words.{entry, below}
use Rattle.words_line.specs.Restored.{found_row}
use Rattle.words_line.proofs.restored.found_with.Goals as goal

pub loop-f-init : goal.loop-f-init
loop-f-init c =
    (search rules, below_none _ _)

pub loop-f-preserved : goal.loop-f-preserved
loop-f-preserved c =
    let l = c.loop-f in let a = c.args in (search rules, step_set (λ q. pick (below (entry a.vector q) (entry a.owns q)) a.word (get_or a.found q 0)) _ l.then l.f l.invariant.1 _ c.later_of-later.ensures)

pub returns : goal.returns
unfolding found_row
returns c =
    let l = c.loop-f in let e : l.f ≡ 16 = omega arith in
    rw e at l.invariant.1 ∙ below_all _ _ 16 refl
