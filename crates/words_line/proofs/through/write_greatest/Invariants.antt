-- `words_line::through::write_greatest` meets its contract. The loop's invariant: the entries passed so far are written, and nothing else in the lent list has changed.
-- Assumes nothing.
use Rattle.std.specs.Prelude.{◌≡◌, ◌-◌, ◌≤◌}
use Rattle.laws.specs.Basics.{refl, ◌∙◌, arith, length, length-set, rules}
use Rattle.laws.specs.{Below.below_written, Loops.set_below, Loops.below_none, Loops.step_set}
use Rattle.words_line.specs.Through.{greatest_in}
use Rattle.words_line.proofs.through.write_greatest.Given as goal

abbrev pub invariant-loop-p : goal.invariant-loop-p
invariant-loop-p l = (l.p ≤ l.n) × (length l.line ≡ length l.initial.line) × (l.line ≡ set_below l.p (λ q. greatest_in l.w l.starts q l.m) l.initial.line)
