-- `machine_console::calls::deliver` meets its contract. Assumes nothing.
use Rattle.laws.specs.Basics.{refl, rules}
use Rattle.whole_runs.specs.{Outcomes.deliver_report, Calls.answered}
use Rattle.theory_roles.specs.{declared.Operation.TheVariants.Deliver, Runs.console_answered}
use Rattle.library_console.specs.Asked.{deliver_as}
use Rattle.machine_console.specs.{Made.made_with, Text.answer_text}
use Rattle.machine_console.proofs.{Replying.replies}
use Rattle.machine_console.proofs.calls.deliver.Goals as goal

pub returns : goal.returns
unfolding deliver_as made_with console_answered answered answer_text
returns c =
    λ line.
    let e = c.deliver-delivered.ensures in replies deliver_report Deliver c.args.role c.args.owned c.args.c.caller _ _ _ _ _ _ line c.requires e.w_after e.answer_value c.from-summary.ensures (λ k n. rw (e.rose_value, e.deleted_after) refl)
