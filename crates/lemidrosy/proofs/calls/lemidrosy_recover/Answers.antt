-- `lemidrosy::calls::lemidrosy_recover` meets its contract. Assumes nothing.
use Rattle.laws.specs.Basics.{refl, ◌∙◌, ap, rules}
use Rattle.listing.specs.answers.Codes.{recover_code}
use Rattle.listing.proofs.answers.Fit.{recover_fits}
use Rattle.whole_runs.proofs.Sweep.{sweep_promise}
use Rattle.words.specs.Layout.{run_of}
use Rattle.lemidrosy.proofs.Changing.{changed}
use Rattle.lemidrosy.proofs.calls.lemidrosy_recover.Goals as goal

pub of-requires : goal.of-requires
of-requires c =
    rw c.recover-answer.ensures.value (recover_fits _ _ _ _)

pub returns : goal.returns
returns c =
    let a = c.args in let g = c.recover-answer.ensures in let sweep = sweep_promise (run_of a.words.now) a.failed a.deleted.now a.line.now refl g.line_after g.w_after in record { fact = (c.of.ensures ∙ ap recover_code g.value, g.deleted_after, g.line_after, changed _ _ _ _ _ g.value g.w_after c.recover-answer.ensures.w_unchanged c.recover-answer.ensures.leaves, sweep); line_promise = c.recover-answer.ensures.line_promise; state_promise = c.recover-answer.ensures.state_promise; clean_promise = c.recover-answer.ensures.clean_promise }
