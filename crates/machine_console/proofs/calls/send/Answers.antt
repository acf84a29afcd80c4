-- `machine_console::calls::send` meets its contract. Assumes nothing.
use Rattle.laws.specs.Basics.{refl, rules}
use Rattle.whole_runs.specs.{Outcomes.send_report, Calls.answered}
use Rattle.theory_roles.specs.{declared.Operation.TheVariants.Send, Runs.console_answered}
use Rattle.library_console.specs.Asked.{send_as}
use Rattle.machine_console.specs.{Made.made_with, Text.answer_text}
use Rattle.machine_console.proofs.{Replying.replies}
use Rattle.machine_console.proofs.calls.send.Goals as goal

pub returns : goal.returns
unfolding send_as made_with console_answered answered answer_text
returns c =
    λ pairs line.
    let e = c.send-answer.ensures in replies send_report Send c.args.role c.args.owned c.args.c.caller _ _ _ _ _ pairs line c.requires e.w_after e.value c.from-summary.ensures (λ k n. refl)
