-- `machine_console::calls::counts` meets its contract. Assumes nothing.
use Rattle.laws.specs.Basics.{refl, rules, ◌∙◌}
use Rattle.listing.specs.Reports.{line_is}
use Rattle.whole_runs.specs.{Outcomes.line_report, Calls.answered}
use Rattle.theory_roles.specs.{declared.Operation.TheVariants.Counts, Runs.console_answered}
use Rattle.library_console.specs.Asked.{counts_as}
use Rattle.machine_console.specs.{Made.made_with, Text.answer_text}
use Rattle.machine_console.proofs.{Replying.replies}
use Rattle.machine_console.proofs.calls.counts.Goals as goal

pub returns : goal.returns
unfolding counts_as made_with console_answered answered answer_text
returns c =
    λ pairs.
    let e = c.counts-answer.ensures in replies line_report Counts c.args.role c.args.owned c.args.c.caller _ _ _ _ _ pairs _ c.requires e.w_value e.value (c.from-summary.ensures ∙ line_is _) (λ k n. rw e.line_after refl)
