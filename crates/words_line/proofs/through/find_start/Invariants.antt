-- `words_line::through::find_start` meets its contract. The loop's invariant: where the vector starts, if one of the checkpoints passed so far is the one.
-- Assumes nothing.
use Rattle.std.specs.Prelude.{◌≡◌, ◌+◌, ◌-◌, ◌≤◌}
use Rattle.laws.specs.Basics.{refl, sym, ◌∙◌, true, false, List, ℕ, arith, eqb, rules}
use native.Mathlib.Numerals.{add-one}
use Rattle.laws.specs.Loops.{either}
use Rattle.words.specs.Layout.{word, kept_count_at_of, index_at_of, stored_at}
use Rattle.words_line.specs.Through.{start_of}
use Rattle.words_line.proofs.through.find_start.Given as goal

abbrev pub invariant-loop-k : goal.invariant-loop-k
invariant-loop-k l = (l.k ≤ l.kept_count) × (l.start ≡ start_of l.w l.p l.index l.k)
