-- `library_calls::run_words::fill::put_messages` meets its contract. Assumes nothing.
use Rattle.std.specs.Prelude.{◌≡◌, ◌≤◌}
use Rattle.laws.specs.Basics.{length, get_or}
use Rattle.laws.specs.{Loops.iter, Search.all_below}
use Rattle.library_calls.specs.{run_words.Fits.past_messages, run_words.Fits.one_fits, run_words.Filled.messages_filled}
use Rattle.library_calls.proofs.run_words.fill.put_messages.Given as goal

abbrev pub invariant-loop-k : goal.invariant-loop-k
invariant-loop-k l = (l.k ≤ 64) × (length l.w ≡ length l.initial.w) × (l.all ≡ all_below l.k (λ q. one_fits q l.many (get_or l.messages q past_messages))) × (l.w ≡ iter l.k (messages_filled l.many l.messages) l.initial.w)
