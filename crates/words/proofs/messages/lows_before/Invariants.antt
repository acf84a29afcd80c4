-- `words::messages::lows_before` meets its contract. Assumes nothing.
use Rattle.std.specs.Prelude.{◌≡◌, ◌+◌, ◌-◌, ◌≤◌, ◌<◌}
use Rattle.laws.specs.Basics.{refl, List, ℕ, suc, arith, eqb, rules, pick}
use lib.Bits.{bit_or}
use native.Mathlib.Numerals.{add-one}
use Rattle.words.specs.{Layout.word, Layout.low_at, messages.Places.lows_below}
use Rattle.words.proofs.messages.lows_before.Given as goal

abbrev pub invariant-loop-k : goal.invariant-loop-k
invariant-loop-k l = (l.k ≤ l.to) × (l.past ≡ lows_below l.w l.low l.k)
