-- `lemidrosy::console::lemidrosy_console_lose` meets its contract. Assumes nothing.
use Rattle.laws.specs.Basics.{◌∙◌, ap, rules}
use Rattle.whole_runs.specs.Outcomes.{Report}
use Rattle.listing.specs.Reports.{lose_is}
use Rattle.listing.specs.answers.Codes.{coded, lose_code}
use Rattle.lemidrosy.proofs.{Changing.changed, Consoles.lose_as_fits}
use Rattle.lemidrosy.proofs.console.lemidrosy_console_lose.Goals as goal

pub of-requires : goal.of-requires
of-requires c =
    rw (lose_is c.lose-answer.result, c.lose-answer.ensures.value) (lose_as_fits _ _ _ _)

pub returns : goal.returns
returns c =
    let g = c.lose-answer.ensures in (c.of.ensures ∙ ap (λ (r : Report). coded r 0) (lose_is _) ∙ ap lose_code g.value, changed _ _ _ _ _ g.value g.w_after g.w_unchanged g.leaves)
