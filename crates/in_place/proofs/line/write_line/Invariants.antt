-- `in_place::line::write_line` meets its contract. The loop's invariant: the indexes passed so far are written, and nothing else in the lent list has changed.
-- Assumes nothing.
use Rattle.std.specs.Prelude.{◌≡◌, ◌-◌, ◌≤◌}
use Rattle.laws.specs.Basics.{refl, ◌∙◌, arith, length, get_or, length-set, rules}
use Rattle.laws.specs.{Below.below_written, Loops.set_below, Loops.below_none, Loops.step_set}
use Rattle.in_place.proofs.line.write_line.Given as goal

abbrev pub invariant-loop-p : goal.invariant-loop-p
invariant-loop-p l = (l.p ≤ l.n) × (length l.line ≡ length l.initial.line) × (l.line ≡ set_below l.p (λ q. (get_or l.indexes q (record { 0 = 0 })).0) l.initial.line)
