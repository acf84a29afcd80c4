-- `words::messages::gather` meets its contract. Assumes nothing.
use Rattle.std.specs.Prelude.{◌≡◌, ◌+◌, ◌-◌, ◌≤◌, ◌<◌}
use Rattle.laws.specs.Basics.{refl, sym, ◌∙◌, ap, List, ℕ, arith, length, rules, pick, by_bool}
use native.Mathlib.Numerals.{add-one}
use Rattle.words.specs.{Layout.message_in, Layout.is_message, messages.Places.moved_to, messages.Places.close_step, messages.Places.closing}
use Rattle.words.proofs.messages.gather.Given as goal

abbrev pub invariant-loop-k : goal.invariant-loop-k
invariant-loop-k l = (l.k ≤ 64) × (l.to ≤ l.k) × (length l.w ≡ length l.initial.w) × (l.w ≡ (closing l.initial.w l.k).words) × (l.to ≡ (closing l.initial.w l.k).many)
