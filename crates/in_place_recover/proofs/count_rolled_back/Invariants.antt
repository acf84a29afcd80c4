-- `in_place_recover::count_rolled_back` meets its contract. The loop's invariant: those of the processes passed so far that go back are counted.
-- Assumes nothing.
use Rattle.std.specs.Prelude.{◌≡◌, ◌+◌, ◌-◌, ◌≤◌}
use Rattle.laws.specs.Basics.{refl, Bool, true, false, ℕ, arith, get_or, rules, pick}
use native.Mathlib.Numerals.{add-one}
use Rattle.laws.specs.{Counting.count_le, Tests.count_below}
use Rattle.in_place_recover.specs.Restored.{goes_back}
use Rattle.in_place_recover.proofs.count_rolled_back.Given as goal

abbrev pub invariant-loop-p : goal.invariant-loop-p
invariant-loop-p l = (l.p ≤ l.n) × (l.back ≡ count_below l.p (λ q. goes_back l.w q (get_or l.pasts q 0)))
