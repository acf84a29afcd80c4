-- `words_sound::rows::without` meets its contract. Assumes nothing.
use Rattle.std.specs.Prelude.{◌≡◌, ◌-◌, ◌≤◌}
use Rattle.laws.specs.Basics.{◌∙◌, arith, eqb, get_or, rules, pick}
use Rattle.laws.specs.Loops.{set_below, below_none, step_set, below_all}
use Rattle.words_sound.proofs.rows.without.Given as goal

abbrev pub invariant-loop-f : goal.invariant-loop-f
invariant-loop-f l = (l.f ≤ 16) × (l.then ≡ set_below l.f (λ q. pick (eqb (get_or l.row q 0) l.x) 0 (get_or l.left q 0)) l.initial.then)
