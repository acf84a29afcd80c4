-- `exam::act::recover` meets its contract. Assumes nothing.
use Rattle.laws.specs.Basics.{◌∙◌, ap}
use Rattle.model.specs.Shapes.{RecoverAnswer}
use Rattle.whole_runs.specs.Outcomes.{Report, recover_report}
use Rattle.listing.specs.Summarised.{report_in}
use Rattle.exam.proofs.act.recover.Goals as goal

pub returns : goal.returns
unfolding report_in
returns c =
    let called = c.recover-outcome.ensures in (
      called.run_value,
      c.number-refused.ensures ∙ ap (λ (r : Report). r.refused) c.from-summary.ensures
          ∙ ap (λ (a : RecoverAnswer). (recover_report a).refused) called.answer_value,
    )
