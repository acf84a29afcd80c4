-- `words_line::restored::known_pins` meets its contract. The loop's invariant: the pins passed so far stand.
-- Assumes nothing.
use Rattle.std.specs.Prelude.{◌≡◌, ◌-◌, ◌≤◌}
use Rattle.laws.specs.Basics.{refl, ◌∙◌, arith, eqb, get_or, rules, pick}
use Rattle.laws.specs.Loops.{set_below, below_none, step_set, below_all}
use Rattle.model.specs.Words.{entry}
use Rattle.words_line.specs.Restored.{known_row}
use Rattle.words_line.proofs.restored.known_pins.Goals as goal

pub loop-f-init : goal.loop-f-init
loop-f-init c =
    (search rules, below_none _ _)

pub loop-f-preserved : goal.loop-f-preserved
loop-f-preserved c =
    let l = c.loop-f in let a = c.args in (search rules, step_set (λ q. pick (eqb (entry a.vector q).0 (entry a.owns q).0) (get_or a.pins q 0) 0) _ l.then l.f l.invariant.1 _ c.known_pin-pin.ensures)

pub returns : goal.returns
unfolding known_row
returns c =
    let l = c.loop-f in let e : l.f ≡ 16 = omega arith in
    rw e at l.invariant.1 ∙ below_all _ _ 16 refl
