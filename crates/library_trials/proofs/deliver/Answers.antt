-- `library_trials::deliver` meets its contract.
-- Assumes nothing.
use Rattle.laws.specs.Basics.{◌∙◌}
use Rattle.words.specs.Layout.{run_of}
use Rattle.library_trials.proofs.{Actions.deliver_leaves, Actions.deliver_is}
use Rattle.library_trials.proofs.deliver.Goals as goal

pub returns : goal.returns
returns c =
    let a = c.args in
    let g = c.deliver_on-delivered.ensures in
    record {
      w_after = g.w_after ∙ deliver_leaves (run_of a.w.now) a.number;
      value = deliver_is (run_of a.w.now) a.number c.deliver_on-delivered.result.answer c.forced_by.result g.answer_value c.forced_by.ensures;
    }
