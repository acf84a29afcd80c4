-- `machine_console::calls::list` meets its contract. Assumes nothing.
use Rattle.laws.specs.Basics.{refl, rules}
use Rattle.whole_runs.specs.Calls.{answered}
use Rattle.theory_roles.specs.{declared.Operation.TheVariants.List as Listing, Console.list_report, Runs.console_answered}
use Rattle.library_console.specs.Asked.{list_as}
use Rattle.machine_console.specs.{Made.made_with, Text.answer_text}
use Rattle.machine_console.proofs.{Replying.replies}
use Rattle.machine_console.proofs.calls.list.Goals as goal

pub returns : goal.returns
unfolding list_as made_with console_answered answered answer_text
returns c =
    λ line.
    let e = c.list-answer.ensures in replies list_report Listing c.args.role c.args.owned c.args.c.caller _ _ _ _ _ _ line c.requires e.w_value e.value c.of_list-summary.ensures (λ k n. rw e.deleted_after refl)
