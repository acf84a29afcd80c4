-- `words_line::line::latest_kept` meets its contract. The loop's invariant: no checkpoint from place `past` on is within the limits.
-- Assumes nothing.
use Rattle.std.specs.Prelude.{◌≡◌, ◌-◌, ◌≤◌, ◌<◌}
use Rattle.laws.specs.Basics.{refl, sym, ◌∙◌, ap, true, false, List, ℕ, zero, suc, arith, rules}
use Rattle.model.specs.declared.Interval.{Interval}
use Rattle.words.specs.Layout.{stored_at, vector_in}
use Rattle.words_line.specs.Line.{is_within, past_kept}
use Rattle.words_line.proofs.line.latest_kept.Given as goal

abbrev pub invariant-loop-past : goal.invariant-loop-past
invariant-loop-past l = (l.past ≤ l.kept_count) × (past_kept l.w l.limits l.p l.kept_count ≡ past_kept l.w l.limits l.p l.past)

abbrev pub decreases-loop-past : goal.decreases-loop-past
decreases-loop-past l = l.past
