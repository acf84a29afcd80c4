-- `words::rows::vector::is_newer` meets its contract. The loop's invariant: the mark says whether some entry passed so far is smaller than the carried one.
-- Assumes nothing.
use Rattle.std.specs.Prelude.{◌≡◌, ◌-◌, ◌≤◌}
use Rattle.laws.specs.Basics.{sym, ◌∙◌, Bool, ℕ, arith, rules}
use Rattle.laws.specs.{Loops.either, Loops.any_zero, Loops.any_yes, Loops.any_no, Search.any_below}
use Rattle.model.specs.{Steps.newer, Words.entry, Words.below}
use Rattle.words.proofs.rows.vector.is_newer.Given as goal

abbrev pub invariant-loop-f : goal.invariant-loop-f
invariant-loop-f l = (l.f ≤ 16) × (l.any ≡ any_below l.f (λ k. below (entry l.own k) (entry l.carried k)))
