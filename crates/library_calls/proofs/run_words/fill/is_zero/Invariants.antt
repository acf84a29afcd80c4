-- `library_calls::run_words::fill::is_zero` meets its contract. Assumes nothing.
use Rattle.std.specs.Prelude.{◌≡◌, ◌≤◌}
use Rattle.laws.specs.Basics.{eqb}
use Rattle.laws.specs.Search.{all_below}
use Rattle.model.specs.Words.{entry}
use Rattle.library_calls.proofs.run_words.fill.is_zero.Given as goal

abbrev pub invariant-loop-f : goal.invariant-loop-f
invariant-loop-f l = (l.f ≤ 16) × (eqb l.any 0 ≡ all_below l.f (λ q. eqb (entry l.vector q).0 0))
