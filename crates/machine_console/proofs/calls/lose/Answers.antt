-- `machine_console::calls::lose` meets its contract. Assumes nothing.
use Rattle.laws.specs.Basics.{refl, rules, ◌∙◌}
use Rattle.listing.specs.Reports.{lose_is}
use Rattle.whole_runs.specs.{Outcomes.lose_report, Calls.answered}
use Rattle.theory_roles.specs.{declared.Operation.TheVariants.Lose, Runs.console_answered}
use Rattle.library_console.specs.Asked.{lose_as}
use Rattle.machine_console.specs.{Made.made_with, Text.answer_text}
use Rattle.machine_console.proofs.{Replying.replies}
use Rattle.machine_console.proofs.calls.lose.Goals as goal

pub returns : goal.returns
unfolding lose_as made_with console_answered answered answer_text
returns c =
    λ pairs line.
    let e = c.lose-answer.ensures in replies lose_report Lose c.args.role c.args.owned c.args.c.caller _ _ _ _ _ pairs line c.requires e.w_after e.value (c.from-summary.ensures ∙ lose_is _) (λ k n. refl)
