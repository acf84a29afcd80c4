-- `library_trials::rest` meets its contract, by whether a checkpoint is due.
-- Assumes nothing.
use Rattle.laws.specs.Basics.{◌∙◌}
use Rattle.words.specs.Layout.{run_of}
use Rattle.library_trials.proofs.{Actions.rests, Actions.rests_not}
use Rattle.library_trials.proofs.rest.Goals as goal

pub returns-then-due : goal.returns-then-due
returns-then-due c =
    rw c.if-due.true (c.checkpoint_on-answer.ensures.w_after ∙ rests (run_of c.args.w.now) c.args.p)

pub returns-else-due : goal.returns-else-due
returns-else-due c =
    rw c.if-due.false (rests_not (run_of c.args.w.now))
