-- `library_judge::decision::crossing::least_crossing` meets its contract. The loop's invariant: the least of the messages so far.
-- Assumes nothing.
use Rattle.std.specs.Prelude.{◌≡◌}
use Rattle.library_judge.specs.decision.Crossings.{least_crossing_of}
use Rattle.library_judge.proofs.decision.crossing.least_crossing.Given as goal

abbrev pub invariant-loop-message : goal.invariant-loop-message
invariant-loop-message l = l.least ≡ least_crossing_of l.states l.messages l.f l.message-index
