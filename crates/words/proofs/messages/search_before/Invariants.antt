-- `words::messages::search_before` meets its contract. Assumes nothing.
use Rattle.std.specs.Prelude.{◌≡◌, ◌-◌, ◌≤◌, ◌<◌}
use Rattle.laws.specs.Basics.{refl, sym, ◌∙◌, ap, List, ℕ, zero, suc, arith, rules, eq-eqb, ne_eqb}
use Rattle.words.specs.Layout.{message_in}
use Rattle.words.specs.messages.Places.{place_below, found_at}
use Rattle.words.proofs.messages.search_before.Given as goal

abbrev pub invariant-loop-past : goal.invariant-loop-past
invariant-loop-past l = (l.past ≤ l.end) × (place_below l.w l.m l.end ≡ place_below l.w l.m l.past)

abbrev pub decreases-loop-past : goal.decreases-loop-past
decreases-loop-past l = l.past
