-- `words_line::line::limits_of` meets its contract. The loop's invariant: what is left of the failed set is its bits from f on, and the limits passed so far stand.
-- Assumes nothing.
use Rattle.std.specs.Prelude.{◌≡◌, ◌+◌, ◌-◌, ◌/◌, ◌%◌, ◌^◌, ◌≤◌}
use Rattle.laws.specs.Basics.{◌∙◌, ap, ℕ, arith, eqb, rules, pick}
use Rattle.laws.specs.{Bits.bits_all, Bits.bits_next, Loops.set_below, Loops.below_none, Loops.step_set}
use Rattle.model.specs.declared.Interval.{Interval}
use Rattle.words.specs.Layout.{word, part_at}
use Rattle.words_line.specs.Line.{limit_of, limits_in}
use Rattle.words_line.proofs.line.limits_of.Given as goal

abbrev pub invariant-loop-f : goal.invariant-loop-f
invariant-loop-f l = (l.f ≤ l.n) × (l.left ≡ l.failed / (2 ^ l.f)) × (l.limits ≡ set_below l.f (limit_of l.w l.failed) l.initial.limits)
