-- `library_trials::act` meets its contract.
-- Assumes nothing.
use Rattle.std.specs.Prelude.{◌≡◌}
use Rattle.laws.specs.Basics.{sym, ◌∙◌, ap}
use Rattle.words.specs.Layout.{run_of}
use Rattle.theory_recording.specs.spacing.Spacing.{action, sends}
use Rattle.library_trials.specs.Steps.{after, action_of}
use Rattle.library_trials.proofs.{Actions.action_none, Actions.action_even, Actions.action_odd}
use Rattle.library_trials.proofs.act.Goals as goal
use Rattle.library_trials.proofs.act.Goals.{in_default-via-in-Some+else-d-eq0, in_default-via-in_default}

pub returns-in-Some : goal.returns-in-Some
returns-in-Some c =
    let a = c.args in
    let s = run_of a.w.now in
    let is = sym (action_even a.n s a.p a.d c.oldest_to.result c.oldest_to.ensures c.in-Some.number c.in-Some.is c.if-d-eq0.true) in
    record { w_after = c.deliver.ensures.w_after ∙ ap (after s) is; value = c.deliver.ensures.value ∙ ap (action_of s) is }

pub returns-in_default : goal.returns-in_default
returns-in_default c =
    let a = c.args in
    let s = run_of a.w.now in
    let is : sends a.n s a.p a.d ≡ action a.n s a.p a.d = elim c.in_default.branch [
      | in_default-via-in-Some+else-d-eq0 w ↦ sym (action_odd a.n s a.p a.d c.oldest_to.result c.oldest_to.ensures w.if-d-eq0.false)
      | in_default-via-in_default w ↦ sym (action_none a.n s a.p a.d c.oldest_to.result c.oldest_to.ensures w.in_default.is)
    ] in
    record { w_after = c.send.ensures.w_after ∙ ap (after s) is; value = c.send.ensures.value ∙ ap (action_of s) is }
