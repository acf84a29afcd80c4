-- `library_calls::run_words::fill::put_pins` meets its contract. Assumes nothing.
use Rattle.std.specs.Prelude.{◌≡◌, ◌≤◌, None}
use Rattle.laws.specs.Basics.{length, get_or}
use Rattle.laws.specs.{Search.all_below}
use Rattle.words.specs.Puts.{put_from}
use Rattle.library_calls.specs.{run_words.Fits.pin_fits, run_words.Filled.pin_word}
use Rattle.library_calls.proofs.run_words.fill.put_pins.Given as goal

abbrev pub invariant-loop-f : goal.invariant-loop-f
invariant-loop-f l = (l.f ≤ 16) × (length l.w ≡ length l.initial.w) × (l.all ≡ all_below l.f (λ q. pin_fits (get_or l.pins q None))) × (l.w ≡ put_from l.initial.w l.at l.f (λ q. pin_word (get_or l.pins q None)))
