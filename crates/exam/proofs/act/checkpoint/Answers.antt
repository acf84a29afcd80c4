-- `exam::act::checkpoint` meets its contract. Assumes nothing.
use Rattle.laws.specs.Basics.{◌∙◌, ap}
use Rattle.model.specs.Shapes.{CheckpointAnswer}
use Rattle.whole_runs.specs.Outcomes.{Report, checkpoint_report}
use Rattle.listing.specs.Summarised.{report_in}
use Rattle.exam.proofs.act.checkpoint.Goals as goal

pub returns : goal.returns
unfolding report_in
returns c =
    let called = c.checkpoint-outcome.ensures in (
      called.run_value,
      c.number-refused.ensures ∙ ap (λ (r : Report). r.refused) c.from-summary.ensures
          ∙ ap (λ (a : CheckpointAnswer). (checkpoint_report a).refused) called.answer_value,
    )
