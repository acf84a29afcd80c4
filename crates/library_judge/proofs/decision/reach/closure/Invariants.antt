-- `library_judge::decision::reach::closure` meets its contract. The loop's invariant: what is reached is lowered from the start. Each pass but the last lowers the rows added up.
-- Assumes nothing.
use Rattle.library_judge.proofs.decision.Passes.{total, Lowered}
use Rattle.library_judge.proofs.decision.reach.closure.Given as goal

abbrev pub invariant-loop : goal.invariant-loop
invariant-loop l = Lowered l.states l.messages l.fn.start l.reach

abbrev pub decreases-loop : goal.decreases-loop
decreases-loop l = total l.reach
