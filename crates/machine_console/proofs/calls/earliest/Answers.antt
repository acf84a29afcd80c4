-- `machine_console::calls::earliest` meets its contract. Assumes nothing.
use Rattle.laws.specs.Basics.{refl, rules, ◌∙◌}
use Rattle.laws.specs.Lists.{table}
use Rattle.words_line.specs.Through.{pair_count_of, named_at, named_in}
use Rattle.listing.specs.Reports.{line_is}
use Rattle.whole_runs.specs.{Outcomes.line_report, Calls.answered}
use Rattle.theory_roles.specs.{declared.Operation.TheVariants.Earliest, Runs.console_answered}
use Rattle.library_console.specs.Asked.{earliest_as}
use Rattle.machine_console.specs.{Made.made_with, Text.answer_text}
use Rattle.machine_console.proofs.{Replying.replies}
use Rattle.machine_console.proofs.calls.earliest.Goals as goal

pub returns : goal.returns
unfolding earliest_as made_with console_answered answered answer_text named_in named_at pair_count_of table
returns c =
    λ pairs.
    let e = c.earliest-answer.ensures in replies line_report Earliest c.args.role c.args.owned c.args.c.caller _ _ _ _ _ pairs _ c.requires e.w_value e.value (c.from-summary.ensures ∙ line_is _) (λ k n. rw e.line_after refl)
