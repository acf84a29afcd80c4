-- `words_line::through::greatest_entry` meets its contract. The loop's invariant: the greatest of the entries passed so far.
-- Assumes nothing.
use Rattle.std.specs.Prelude.{◌≡◌, ◌+◌, ◌-◌, ◌≤◌}
use Rattle.laws.specs.Basics.{refl, ◌∙◌, ap, List, ℕ, max, arith, get_or, rules}
use native.Mathlib.Numerals.{add-one}
use Rattle.laws.specs.{Loops.either}
use Rattle.model.specs.declared.Interval.{Interval}
use Rattle.words.specs.Layout.{word}
use Rattle.words_line.specs.Through.{greatest_in}
use Rattle.words_line.proofs.through.greatest_entry.Given as goal

abbrev pub invariant-loop-k : goal.invariant-loop-k
invariant-loop-k l = (l.k ≤ l.m) × (l.most ≡ greatest_in l.w l.starts l.p l.k)
