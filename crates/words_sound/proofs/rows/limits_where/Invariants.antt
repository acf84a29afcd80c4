-- `words_sound::rows::limits_where` meets its contract. Assumes nothing.
use Rattle.std.specs.Prelude.{◌≡◌, ◌-◌, ◌≤◌}
use Rattle.laws.specs.Basics.{refl, ◌∙◌, arith, eqb, rules, pick}
use Rattle.laws.specs.Loops.{set_below, below_none, step_set, below_all}
use Rattle.model.specs.Words.{entry}
use Rattle.words_sound.proofs.rows.limits_where.Given as goal

abbrev pub invariant-loop-f : goal.invariant-loop-f
invariant-loop-f l = (l.f ≤ 16) × (l.limits ≡ set_below l.f (λ q. pick (eqb (entry l.vector q).0 0) 0 65535) l.initial.limits)
