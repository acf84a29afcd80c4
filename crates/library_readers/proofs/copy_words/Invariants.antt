-- `library_readers::copy_words` meets its contract. Assumes nothing.
use Rattle.std.specs.Prelude.{◌≡◌, ◌+◌, ◌-◌, ◌≤◌}
use Rattle.laws.specs.Basics.{refl, ◌∙◌, arith, length, length-set, rules}
use Rattle.laws.specs.{Below.below_written, Loops.set_below, Loops.below_none, Loops.step_set}
use Rattle.words.specs.Layout.{word}
use Rattle.library_readers.proofs.copy_words.Given as goal

abbrev pub invariant-loop-f : goal.invariant-loop-f
invariant-loop-f l = (l.f ≤ l.n) × (length l.out ≡ length l.initial.out) × (l.out ≡ set_below l.f (λ q. word l.w (l.at + q)) l.initial.out)
