-- `words_process::pins::is_pinned` meets its contract. Assumes nothing.
use Rattle.std.specs.Prelude.{◌≡◌, ◌||◌, ◌+◌, ◌-◌, ◌≤◌}
use Rattle.laws.specs.Basics.{sym, ◌∙◌, ap, Bool, ℕ, arith, eqb, get_or, rules}
use native.Mathlib.Numerals.{add-one}
use Rattle.laws.specs.{Loops.any_zero, Search.any_below, Select.or_swap}
use Rattle.words_process.proofs.{PinRows.pinned_row}
use Rattle.words_process.proofs.pins.is_pinned.Given as goal

abbrev pub invariant-loop-f : goal.invariant-loop-f
invariant-loop-f l = (l.f ≤ 16) × (l.any ≡ any_below l.f (λ k. eqb (get_or l.pins k 0) l.word))
