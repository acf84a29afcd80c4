-- `words_sound::rows::over_by` meets its contract. Assumes nothing.
use Rattle.std.specs.Prelude.{◌≡◌, ◌-◌, ◌≤◌}
use Rattle.laws.specs.Basics.{◌∙◌, ap, ℕ, arith, get_or, rules}
use lib.Bits.{bit_or}
use Rattle.laws.specs.Loops.{set_below, below_none, step_set, below_all}
use Rattle.model.specs.Words.{entry}
use Rattle.words_sound.proofs.rows.over_by.Given as goal

abbrev pub invariant-loop-f : goal.invariant-loop-f
invariant-loop-f l = (l.f ≤ 16) × (l.then ≡ set_below l.f (λ q. bit_or (get_or l.over q 0) ((entry l.vector q).0 - (entry l.limits q).0)) l.initial.then)
