-- `library_judge::decision::crossing::near_end` meets its contract. The loop's invariant: for none of the processes so far a message crosses.
-- Assumes nothing.
use Rattle.std.specs.Prelude.{◌≡◌, ◌<◌}
use Rattle.laws.specs.Basics.{None, ℕ, length}
use Rattle.library_judge.specs.decision.Crossings.{least_crossing_of}
use Rattle.library_judge.proofs.decision.crossing.near_end.Given as goal

abbrev pub invariant-loop-f : goal.invariant-loop-f
invariant-loop-f l = (x : ℕ) → x < l.f → least_crossing_of l.states l.messages x (length l.messages) ≡ None
