-- `lemidrosy::calls::lemidrosy_line` meets its contract. Assumes nothing.
use Rattle.laws.specs.Basics.{◌∙◌, ap, rules}
use Rattle.whole_runs.specs.Outcomes.{Report}
use Rattle.listing.specs.Reports.{line_is}
use Rattle.listing.specs.answers.Codes.{coded, line_code}
use Rattle.listing.proofs.answers.Fit.{line_fits}
use Rattle.lemidrosy.proofs.calls.lemidrosy_line.Goals as goal

pub of-requires : goal.of-requires
of-requires c =
    rw (line_is c.line-answer.result, c.line-answer.ensures.value) (line_fits _ _ _)

pub shape_of-line : goal.shape_of-line
shape_of-line c =
    c.line-answer.auto.line

pub returns : goal.returns
returns c =
    record { fact = (c.of.ensures ∙ ap (λ (r : Report). coded r 0) (line_is _) ∙ ap line_code c.line-answer.ensures.value, c.line-answer.ensures.line_after, rw c.line-answer.ensures.value at c.line-answer.ensures.empty_line_promise); line_promise = c.line-answer.ensures.line_promise }
