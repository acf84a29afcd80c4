-- `library_judge::reading::Reading::read_all` meets its contract. The loop's invariant: the pattern of the records so far is read.
-- Assumes nothing.
use Rattle.laws.specs.Basics.{length}
use Rattle.library_judge.specs.Kept.{Reached}
use Rattle.library_judge.proofs.reading.Reading.read_all.Given as goal

abbrev pub invariant-loop-part : goal.invariant-loop-part
invariant-loop-part l = Reached l.n l.trace (length l.yielded) l.self
