-- `library_calls::run_words::read::pins_of` meets its contract. Assumes nothing.
use Rattle.std.specs.Prelude.{◌≡◌, ◌≤◌}
use Rattle.laws.specs.Loops.{set_below}
use Rattle.words.specs.Layout.{pins_at_of, pins_in}
use Rattle.library_calls.proofs.run_words.read.pins_of.Given as goal

abbrev pub invariant-loop-p : goal.invariant-loop-p
invariant-loop-p l = (l.p ≤ l.n) × (l.pins ≡ set_below l.p (λ q. pins_in l.w (pins_at_of q)) l.initial.pins)
