-- `machine_console::calls::recover` meets its contract. Assumes nothing.
use Rattle.laws.specs.Basics.{refl, rules}
use Rattle.whole_runs.specs.{Outcomes.recover_report, Calls.answered}
use Rattle.theory_roles.specs.{declared.Operation.TheVariants.Recover, Runs.console_answered}
use Rattle.library_console.specs.Asked.{recover_as}
use Rattle.machine_console.specs.{Made.made_with, Text.answer_text}
use Rattle.machine_console.proofs.{Replying.replies}
use Rattle.machine_console.proofs.calls.recover.Goals as goal

pub returns : goal.returns
unfolding recover_as made_with console_answered answered answer_text
returns c =
    let e = c.recover-answer.ensures in replies recover_report Recover c.args.role c.args.owned c.args.c.caller _ _ _ _ _ _ _ c.requires e.w_after e.value c.from-summary.ensures (λ k n. rw (e.deleted_after, e.line_after) refl)
