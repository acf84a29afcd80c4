-- `in_place_recover::process::owns::owns_after` meets its contract. The loop's invariant: the own entries of the processes passed so far stand.
-- Assumes nothing.
use Rattle.std.specs.Prelude.{◌≡◌, ◌-◌, ◌≤◌}
use Rattle.laws.specs.Basics.{refl, ◌∙◌, arith, get_or, rules}
use Rattle.laws.specs.Loops.{set_below, below_none, step_set, below_all}
use Rattle.in_place_recover.specs.Restored.{restored_own, owns_after_of}
use Rattle.in_place_recover.proofs.process.owns.owns_after.Given as goal

abbrev pub invariant-loop-p : goal.invariant-loop-p
invariant-loop-p l = (l.p ≤ 16) × (l.owns ≡ set_below l.p (λ q. restored_own l.w q (get_or l.pasts q 0)) l.initial.owns)
