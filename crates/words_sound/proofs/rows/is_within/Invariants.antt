-- `words_sound::rows::is_within` meets its contract: the gathered word is 0 exactly if every entry so far is within its limit. Assumes nothing.
use Rattle.std.specs.Prelude.{◌≡◌, ◌-◌, ◌≤◌}
use Rattle.laws.specs.Basics.{refl, ◌∙◌, ap, ℕ, arith, eqb, leb, rules}
use Rattle.laws.specs.Search.{all_below}
use Rattle.model.specs.Words.{entry}
use Rattle.words_sound.proofs.{rows.Ors.or_step, rows.Ors.less_zero}
use Rattle.words_sound.proofs.rows.is_within.Given as goal

abbrev pub invariant-loop-f : goal.invariant-loop-f
invariant-loop-f l = (l.f ≤ 16) × (eqb l.over 0 ≡ all_below l.f (λ q. leb (entry l.vector q).0 (entry l.limits q).0))
