-- `lemidrosy_judge_step` meets its contract.
-- Assumes nothing.
use Rattle.laws.specs.Basics.{refl, rules}
use Rattle.machines.proofs.Calling.{no_request, posed}
use Rattle.lemidrosy_machines.proofs.judge.lemidrosy_judge_step.Goals as goal

pub returns-then-request-lt-REQUEST : goal.returns-then-request-lt-REQUEST
returns-then-request-lt-REQUEST c =
    no_request _ _ _ _ refl c.if-request-lt-REQUEST.true (refl, refl)

pub returns : goal.returns
returns c =
    posed _ _ _ _ refl c.if-request-lt-REQUEST.false _ _ (rw c.unpack-answer.ensures at c.step-asked.ensures) c.pack.ensures
