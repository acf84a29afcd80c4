-- `words_sound::rows::is_among` meets its contract: the gathered word is 0 exactly if no word so far is x. Assumes nothing.
use Rattle.std.specs.Prelude.{◌≡◌, ◌-◌, ◌≤◌}
use Rattle.laws.specs.Basics.{not, arith, eqb, get_or, rules}
use Rattle.laws.specs.Search.{any_below}
use Rattle.words_sound.proofs.{rows.Ors.any_none, rows.Ors.any_step, rows.Ors.any_end}
use Rattle.words_sound.proofs.rows.is_among.Given as goal

abbrev pub invariant-loop-f : goal.invariant-loop-f
invariant-loop-f l = (l.f ≤ 16) × (eqb l.any 0 ≡ not (any_below l.f (λ q. eqb (get_or l.row q 0) l.x)))
