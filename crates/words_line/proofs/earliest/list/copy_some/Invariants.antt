-- `words_line::earliest::list::copy_some` meets its contract. The loop's invariant: what is copied so far is the copy of the elements passed.
-- Assumes nothing.
use Rattle.std.specs.Prelude.{◌≡◌, ◌-◌, ◌≤◌}
use Rattle.laws.specs.Basics.{sym, ◌∙◌, arith, take, length-take-le, rules}
use lib.Seq.{get_or-take}
use Rattle.words_line.specs.earliest.Copying.{no_named, copy_to}
use Rattle.words_line.proofs.earliest.Lists.{to_length, copy_none, copy_more, copy_whole}
use Rattle.words_line.proofs.earliest.list.copy_some.Given as goal

abbrev pub invariant-loop-k : goal.invariant-loop-k
invariant-loop-k l = (l.k ≤ l.m) × (l.copied ≡ copy_to l.k (take l.m l.named))
