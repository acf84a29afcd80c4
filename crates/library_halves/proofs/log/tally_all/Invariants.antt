-- `library_halves::log::tally_all` meets its contract. The loop's invariant: the tally of the words so far.
-- Assumes nothing.
use Rattle.std.specs.Prelude.{◌≡◌}
use Rattle.library_halves.specs.Log.{tally_of}
use Rattle.library_halves.proofs.log.tally_all.Given as goal

abbrev pub invariant-loop-word : goal.invariant-loop-word
invariant-loop-word l = l.t ≡ tally_of l.log l.word-index l.sender l.count
