-- `words::messages::first_unused` meets its contract. Assumes nothing.
use Rattle.std.specs.Prelude.{◌≡◌, ◌+◌, ◌-◌, ◌≤◌, ◌<◌}
use Rattle.laws.specs.Basics.{refl, sym, ◌∙◌, true, List, ℕ, arith, rules, not-false}
use native.Mathlib.Numerals.{add-one}
use Rattle.words.specs.{Layout.word, Layout.low_at, Layout.message_in, Layout.is_message, messages.Places.close_step, messages.Places.closing}
use Rattle.words.proofs.{messages.Stayed.moved_nowhere}
use Rattle.words.proofs.messages.first_unused.Given as goal

abbrev pub invariant-loop-k : goal.invariant-loop-k
invariant-loop-k l = (l.k ≤ 64) × (closing l.w l.k ≡ record { words = l.w; many = l.k })

abbrev pub decreases-loop-k : goal.decreases-loop-k
decreases-loop-k l = 64 - l.k
