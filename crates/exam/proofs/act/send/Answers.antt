-- `exam::act::send` meets its contract. Assumes nothing.
use Rattle.laws.specs.Basics.{◌∙◌, ap}
use Rattle.model.specs.Shapes.{SendAnswer}
use Rattle.whole_runs.specs.Outcomes.{Report, send_report}
use Rattle.listing.specs.Summarised.{report_in}
use Rattle.exam.proofs.act.send.Goals as goal

pub returns : goal.returns
unfolding report_in
returns c =
    let called = c.send-outcome.ensures in (
      called.run_value,
      c.number-refused.ensures ∙ ap (λ (r : Report). r.refused) c.from-summary.ensures
          ∙ ap (λ (a : SendAnswer). (send_report a).refused) called.answer_value,
    )
