-- `lemidrosy::console::lemidrosy_console_counts` meets its contract. Assumes nothing.
use Rattle.laws.specs.Basics.{◌∙◌, ap, rules}
use Rattle.whole_runs.specs.Outcomes.{Report}
use Rattle.listing.specs.Reports.{line_is}
use Rattle.listing.specs.answers.Codes.{coded, line_code}
use Rattle.lemidrosy.proofs.{Consoles.counts_as_fits}
use Rattle.lemidrosy.proofs.console.lemidrosy_console_counts.Goals as goal

pub of-requires : goal.of-requires
of-requires c =
    rw (line_is c.counts-answer.result, c.counts-answer.ensures.value) (counts_as_fits _ _ _ _)

pub returns : goal.returns
returns c =
    (c.of.ensures ∙ ap (λ (r : Report). coded r 0) (line_is _) ∙ ap line_code c.counts-answer.ensures.value, c.counts-answer.ensures.line_after)
