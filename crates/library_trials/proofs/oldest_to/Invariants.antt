-- `library_trials::oldest_to` meets its contract: no place before k has a message to p.
-- Assumes nothing.
use Rattle.std.specs.Prelude.{◌≡◌, ◌<◌}
use Rattle.laws.specs.Basics.{false, ℕ}
use Rattle.words.specs.Layout.{message_in}
use Rattle.library_trials.proofs.Searching.{is_to}
use Rattle.library_trials.proofs.oldest_to.Given as goal

abbrev pub invariant-loop-k : goal.invariant-loop-k
invariant-loop-k l = (j : ℕ) → j < l.k → is_to l.p (message_in l.w j) ≡ false
