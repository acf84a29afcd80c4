-- `words_line::restored::found_with` meets its contract. The loop's invariant: the pins passed so far stand.
-- Assumes nothing.
use Rattle.std.specs.Prelude.{◌≡◌, ◌-◌, ◌≤◌}
use Rattle.laws.specs.Basics.{refl, ◌∙◌, arith, get_or, rules, pick}
use Rattle.laws.specs.Loops.{set_below, below_none, step_set, below_all}
use Rattle.model.specs.Words.{entry, below}
use Rattle.words_line.specs.Restored.{found_row}
use Rattle.words_line.proofs.restored.found_with.Given as goal

abbrev pub invariant-loop-f : goal.invariant-loop-f
invariant-loop-f l = (l.f ≤ 16) × (l.then ≡ set_below l.f (λ q. pick (below (entry l.vector q) (entry l.owns q)) l.word (get_or l.found q 0)) l.initial.then)
