-- `exam::act::start_with` meets its contract. Assumes nothing.
use Rattle.laws.specs.Basics.{◌∙◌, ap}
use Rattle.model.specs.Shapes.{StartAnswer}
use Rattle.whole_runs.specs.Outcomes.{Report, start_report}
use Rattle.listing.specs.Summarised.{report_in}
use Rattle.exam.proofs.act.start_with.Goals as goal

pub returns : goal.returns
unfolding report_in
returns c =
    let called = c.start-outcome.ensures in (
      called.run_value,
      c.number-refused.ensures ∙ ap (λ (r : Report). r.refused) c.from-summary.ensures
          ∙ ap (λ (a : StartAnswer). (start_report a).refused) called.answer_value,
    )
