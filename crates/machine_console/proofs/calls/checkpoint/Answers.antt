-- `machine_console::calls::checkpoint` meets its contract. Assumes nothing.
use Rattle.laws.specs.Basics.{refl, rules}
use Rattle.whole_runs.specs.{Outcomes.checkpoint_report, Calls.answered}
use Rattle.theory_roles.specs.{declared.Operation.TheVariants.Checkpoint, Runs.console_answered}
use Rattle.library_console.specs.Asked.{checkpoint_as}
use Rattle.machine_console.specs.{Made.made_with, Text.answer_text}
use Rattle.machine_console.proofs.{Replying.replies}
use Rattle.machine_console.proofs.calls.checkpoint.Goals as goal

pub returns : goal.returns
unfolding checkpoint_as made_with console_answered answered answer_text
returns c =
    λ line.
    let e = c.checkpoint-answer.ensures in replies checkpoint_report Checkpoint c.args.role c.args.owned c.args.c.caller _ _ _ _ _ _ line c.requires e.w_after e.value c.from-summary.ensures (λ k n. rw e.deleted_after refl)
