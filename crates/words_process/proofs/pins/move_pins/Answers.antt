-- `words_process::pins::move_pins` meets its contract. Assumes nothing.
use Rattle.std.specs.Prelude.{◌≡◌, ◌-◌, ◌≤◌}
use Rattle.laws.specs.Basics.{◌∙◌, arith, get_or, rules, pick}
use Rattle.laws.specs.Loops.{set_below, below_none, below_all, step_set}
use Rattle.model.specs.Words.{in_set}
use Rattle.words_process.specs.Pins.{moved_row}
use Rattle.words_process.proofs.pins.move_pins.Goals as goal

pub loop-f-init : goal.loop-f-init
loop-f-init c =
    (search rules, below_none _ _)

pub loop-f-preserved : goal.loop-f-preserved
loop-f-preserved c =
    let a = c.args in (search rules, step_set (λ k. pick (in_set a.moves k) a.new (get_or a.pins k 0)) a.pins _ _ c.loop-f.invariant.1 _ c.moved_pin-pin.ensures)

pub returns : goal.returns
unfolding moved_row
returns c =
    let a = c.args in let e : c.loop-f.f ≡ 16 = omega arith in
    rw e at c.loop-f.invariant.1 ∙ below_all (λ k. pick (in_set a.moves k) a.new (get_or a.pins k 0)) a.pins 16 (search rules)
