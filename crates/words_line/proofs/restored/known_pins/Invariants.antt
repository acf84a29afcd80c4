-- `words_line::restored::known_pins` meets its contract. The loop's invariant: the pins passed so far stand.
-- Assumes nothing.
use Rattle.std.specs.Prelude.{◌≡◌, ◌-◌, ◌≤◌}
use Rattle.laws.specs.Basics.{refl, ◌∙◌, arith, eqb, get_or, rules, pick}
use Rattle.laws.specs.Loops.{set_below, below_none, step_set, below_all}
use Rattle.model.specs.Words.{entry}
use Rattle.words_line.specs.Restored.{known_row}
use Rattle.words_line.proofs.restored.known_pins.Given as goal

abbrev pub invariant-loop-f : goal.invariant-loop-f
invariant-loop-f l = (l.f ≤ 16) × (l.then ≡ set_below l.f (λ q. pick (eqb (entry l.vector q).0 (entry l.owns q).0) (get_or l.pins q 0) 0) l.initial.then)
