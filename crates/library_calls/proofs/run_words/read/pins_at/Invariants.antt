-- `library_calls::run_words::read::pins_at` meets its contract. Assumes nothing.
use Rattle.std.specs.Prelude.{◌≡◌, ◌+◌, ◌≤◌}
use Rattle.laws.specs.Loops.{set_below}
use Rattle.words.specs.Layout.{word, pin_of_def}
use Rattle.library_calls.proofs.run_words.read.pins_at.Given as goal

abbrev pub invariant-loop-f : goal.invariant-loop-f
invariant-loop-f l = (l.f ≤ 16) × (l.pins ≡ set_below l.f (λ q. pin_of_def (word l.w (l.at + q))) l.initial.pins)
