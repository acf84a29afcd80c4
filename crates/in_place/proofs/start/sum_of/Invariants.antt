-- `in_place::start::sum_of` meets its contract. Assumes nothing.
use Rattle.std.specs.Prelude.{◌≡◌, ◌+◌, ◌-◌, ◌*◌, ◌≤◌}
use Rattle.laws.specs.Basics.{refl, ◌∙◌, ℕ, arith, get_or, rules}
use native.Mathlib.Numerals.{add-one}
use Rattle.laws.specs.Sums.{sum_below}
use Rattle.in_place.proofs.start.sum_of.Given as goal

abbrev pub invariant-loop-p : goal.invariant-loop-p
invariant-loop-p l = (l.p ≤ l.n) × (l.sum ≡ sum_below l.p (λ q. get_or l.block_counts q 0)) × (l.sum ≤ l.p * 4294967295)
