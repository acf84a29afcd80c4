-- `library_readers::saved::bytes::words_in` meets its contract. Assumes nothing.
use Rattle.std.specs.Prelude.{◌≡◌, ◌-◌, ◌≤◌}
use Rattle.laws.specs.Basics.{◌∙◌, ℕ, arith, length-replicate, rules}
use Rattle.laws.specs.Loops.{set_below, below_none, step_set, below_all}
use Rattle.library_readers.specs.saved.Format.{word_in_of, words_in}
use Rattle.library_readers.proofs.saved.bytes.words_in.Given as goal

abbrev pub invariant-loop-k : goal.invariant-loop-k
invariant-loop-k l = (l.k ≤ 6464) × (l.w ≡ set_below l.k (word_in_of l.bytes) l.initial.w)
