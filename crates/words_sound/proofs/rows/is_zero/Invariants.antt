-- `words_sound::rows::is_zero` meets its contract: the gathered word is 0 exactly if every word so far is. Assumes nothing.
use Rattle.std.specs.Prelude.{◌≡◌, ◌-◌, ◌≤◌}
use Rattle.laws.specs.Basics.{refl, arith, eqb, get_or, rules}
use Rattle.laws.specs.Search.{all_below}
use Rattle.words_sound.proofs.{rows.Ors.or_step}
use Rattle.words_sound.proofs.rows.is_zero.Given as goal

abbrev pub invariant-loop-f : goal.invariant-loop-f
invariant-loop-f l = (l.f ≤ 16) × (eqb l.any 0 ≡ all_below l.f (λ q. eqb (get_or l.row q 0) 0))
