-- `words_process::pins::move_pins` meets its contract. Assumes nothing.
use Rattle.std.specs.Prelude.{◌≡◌, ◌-◌, ◌≤◌}
use Rattle.laws.specs.Basics.{◌∙◌, arith, get_or, rules, pick}
use Rattle.laws.specs.Loops.{set_below, below_none, below_all, step_set}
use Rattle.model.specs.Words.{in_set}
use Rattle.words_process.specs.Pins.{moved_row}
use Rattle.words_process.proofs.pins.move_pins.Given as goal

abbrev pub invariant-loop-f : goal.invariant-loop-f
invariant-loop-f l = (l.f ≤ 16) × (l.then ≡ set_below l.f (λ k. pick (in_set l.moves k) l.new (get_or l.pins k 0)) l.pins)
