-- `words::messages::end_before` meets its contract. Assumes nothing.
use Rattle.std.specs.Prelude.{◌≡◌, ◌-◌, ◌≤◌, ◌<◌}
use Rattle.laws.specs.Basics.{refl, sym, ◌∙◌, true, false, List, ℕ, zero, suc, arith, rules}
use Rattle.words.specs.{Layout.message_in, Layout.is_message, messages.Places.end_below}
use Rattle.words.proofs.messages.end_before.Given as goal

abbrev pub invariant-loop-end : goal.invariant-loop-end
invariant-loop-end l = (l.end ≤ l.from) × (end_below l.w l.from ≡ end_below l.w l.end)

abbrev pub decreases-loop-end : goal.decreases-loop-end
decreases-loop-end l = l.end
