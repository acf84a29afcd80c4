-- `library_judge::decision::crossing::least_crossing` meets its contract.
-- Assumes nothing.
use Rattle.library_judge.specs.decision.Crossings.{least_none, least_more}
use Rattle.library_judge.proofs.decision.crossing.least_crossing.Goals as goal

pub loop-message-init : goal.loop-message-init
loop-message-init c =
    least_none c.args.states.now c.args.messages.now c.args.f

pub loop-message-preserved : goal.loop-message-preserved
loop-message-preserved c =
    let l = c.loop-message in let a = c.args in least_more a.states.now a.messages.now a.f l.message-index l.least _ _ l.invariant c.crossing.ensures c.lesser-least.ensures
