-- `words_line::line::find_members` meets its contract. The loop's invariant: the places of the members of the processes passed so far, and whether each has one.
-- Assumes nothing.
use Rattle.std.specs.Prelude.{◌≡◌, ◌-◌, ◌≤◌}
use Rattle.laws.specs.Basics.{◌∙◌, ap, not, ℕ, arith, eqb, length, rules}
use Rattle.laws.specs.{Below.all_and, Loops.set_below, Loops.below_none, Loops.below_length, Loops.step_set, Loops.all_zero, Search.all_below}
use Rattle.words_line.specs.Line.{past_latest, has_members, pasts_in}
use Rattle.words_line.proofs.{LineRule.past_most}
use Rattle.words_line.proofs.line.find_members.Given as goal

abbrev pub invariant-loop-p : goal.invariant-loop-p
invariant-loop-p l = (l.p ≤ l.n) × (l.pasts ≡ set_below l.p (past_latest l.w l.limits) l.initial.pasts) × (l.all ≡ all_below l.p (λ q. not (eqb (past_latest l.w l.limits q) 0)))
