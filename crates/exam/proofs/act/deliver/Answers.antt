-- `exam::act::deliver` meets its contract. Assumes nothing.
use Rattle.laws.specs.Basics.{◌∙◌, ap}
use Rattle.model.specs.Shapes.{DeliverAnswer}
use Rattle.whole_runs.specs.Outcomes.{Report, deliver_report}
use Rattle.listing.specs.Summarised.{report_in}
use Rattle.exam.proofs.act.deliver.Goals as goal

pub returns : goal.returns
unfolding report_in
returns c =
    let called = c.deliver-outcome.ensures in (
      called.run_value,
      c.number-refused.ensures ∙ ap (λ (r : Report). r.refused) c.from-summary.ensures
          ∙ ap (λ (a : DeliverAnswer). (deliver_report a).refused) called.answer_value,
    )
