-- `lemidrosy::calls::lemidrosy_earliest` meets its contract. Assumes nothing.
use Rattle.laws.specs.Basics.{◌∙◌, ap, rules}
use Rattle.whole_runs.specs.Outcomes.{Report}
use Rattle.listing.specs.Reports.{line_is}
use Rattle.listing.specs.answers.Codes.{coded, line_code}
use Rattle.listing.proofs.answers.Fit.{earliest_fits}
use Rattle.lemidrosy.proofs.calls.lemidrosy_earliest.Goals as goal

pub of-requires : goal.of-requires
of-requires c =
    rw (line_is c.earliest-answer.result, c.earliest-answer.ensures.value) (earliest_fits _ _ _)

pub shape_of-line : goal.shape_of-line
shape_of-line c =
    c.earliest-answer.auto.line

pub returns : goal.returns
returns c =
    record { fact = (c.of.ensures ∙ ap (λ (r : Report). coded r 0) (line_is _) ∙ ap line_code c.earliest-answer.ensures.value, c.earliest-answer.ensures.line_after); earliest_promise = c.earliest-answer.ensures.earliest_promise }
