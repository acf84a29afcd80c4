-- `in_place::start::clear_all` meets its contract. Assumes nothing.
use Rattle.std.specs.Prelude.{◌≡◌, ◌+◌, ◌-◌, ◌≤◌}
use Rattle.laws.specs.Basics.{refl, sym, ◌∙◌, ap, ℕ, arith, length, length-set, rules}
use Rattle.laws.specs.{Loops.set_below, Loops.below_none, Loops.step_set, Loops.below_all, Tables.table_replicate}
use Rattle.words.specs.Layout.{state_size}
use Rattle.in_place.specs.Starting.{zeros}
use Rattle.in_place.proofs.start.clear_all.Given as goal

abbrev pub invariant-loop-k : goal.invariant-loop-k
invariant-loop-k l = (l.k ≤ 6464) × (length l.w ≡ length l.initial.w) × (l.w ≡ set_below l.k (λ q. 0) l.initial.w)
