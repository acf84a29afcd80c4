-- `words_line::restored::find_latest` meets its contract. The loop's invariant: what is found of the checkpoints passed so far.
-- Assumes nothing.
use Rattle.std.specs.Prelude.{◌≡◌, ◌+◌, ◌-◌, ◌≤◌}
use Rattle.laws.specs.Basics.{refl, ◌∙◌, ap, List, ℕ, arith, replicate, rules}
use native.Mathlib.Numerals.{add-one}
use Rattle.model.specs.declared.Interval.{Interval}
use Rattle.words.specs.Layout.{word, index_at_of, stored_at, vector_in}
use Rattle.words_line.specs.Restored.{found_row, found_in_of}
use Rattle.words_line.proofs.restored.find_latest.Given as goal

abbrev pub invariant-loop-k : goal.invariant-loop-k
invariant-loop-k l = (l.k ≤ l.many) × (l.found ≡ found_in_of l.w l.owns l.p l.k)
