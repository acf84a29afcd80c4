-- `lemidrosy::calls::lemidrosy_lose` meets its contract. Assumes nothing.
use Rattle.laws.specs.Basics.{◌∙◌, ap, rules}
use Rattle.whole_runs.specs.Outcomes.{Report}
use Rattle.listing.specs.Reports.{lose_is}
use Rattle.listing.specs.answers.Codes.{coded, lose_code}
use Rattle.listing.proofs.answers.Fit.{lose_fits}
use Rattle.lemidrosy.proofs.Changing.{changed}
use Rattle.lemidrosy.proofs.calls.lemidrosy_lose.Goals as goal

pub of-requires : goal.of-requires
of-requires c =
    rw (lose_is c.lose-answer.result, c.lose-answer.ensures.value) (lose_fits _ _)

pub shape_of-words : goal.shape_of-words
shape_of-words c =
    c.lose-answer.auto.w

pub returns : goal.returns
returns c =
    let g = c.lose-answer.ensures in record { fact = (c.of.ensures ∙ ap (λ (r : Report). coded r 0) (lose_is _) ∙ ap lose_code g.value, changed _ _ _ _ _ g.value g.w_after g.w_unchanged g.leaves); state_promise = g.state_promise }
