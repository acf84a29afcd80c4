-- `words_sound::rows::row_over` meets its contract. Assumes nothing.
use Rattle.std.specs.Prelude.{◌≡◌, ◌-◌, ◌≤◌}
use Rattle.laws.specs.Basics.{◌∙◌, arith, get_or, rules}
use Rattle.laws.specs.Loops.{set_below, below_none, step_set, below_all}
use Rattle.words_sound.proofs.rows.row_over.Given as goal

abbrev pub invariant-loop-f : goal.invariant-loop-f
invariant-loop-f l = (l.f ≤ 16) × (l.over ≡ set_below l.f (λ q. get_or l.row q 0 - get_or l.limits q 0) l.initial.over)
