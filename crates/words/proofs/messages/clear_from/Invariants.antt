-- `words::messages::clear_from` meets its contract. Assumes nothing.
use Rattle.std.specs.Prelude.{◌≡◌, ◌+◌, ◌-◌, ◌≤◌, ◌<◌}
use Rattle.laws.specs.Basics.{refl, ◌∙◌, List, ℕ, suc, arith, length, rules}
use Rattle.words.specs.messages.Places.{cleared, cleared_from}
use Rattle.words.proofs.messages.clear_from.Given as goal

abbrev pub invariant-loop-k : goal.invariant-loop-k
invariant-loop-k l = (l.from ≤ l.k) × (l.k ≤ 64) × (length l.w ≡ length l.initial.w) × (l.w ≡ cleared_from l.initial.w l.from (l.k - l.from))
