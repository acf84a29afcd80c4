-- `words::vector_at` meets its contract. Assumes nothing.
use Rattle.std.specs.Prelude.{◌≡◌, ◌+◌, ◌-◌, ◌≤◌}
use Rattle.laws.specs.Basics.{refl, ◌∙◌, arith, rules}
use Rattle.laws.specs.Loops.{set_below, below_none, step_set, below_all}
use Rattle.words.specs.Layout.{word, interval_of, vector_in}
use Rattle.words.proofs.vector_at.Given as goal

abbrev pub invariant-loop-f : goal.invariant-loop-f
invariant-loop-f l = (l.f ≤ 16) × (l.v ≡ set_below l.f (λ q. interval_of (word l.w (l.at + q))) l.initial.v)
