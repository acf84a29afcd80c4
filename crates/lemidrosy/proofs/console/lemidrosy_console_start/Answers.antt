-- `lemidrosy::console::lemidrosy_console_start` meets its contract. Assumes nothing.
use Rattle.laws.specs.Basics.{◌∙◌, ap, rules}
use Rattle.listing.specs.answers.Codes.{start_code}
use Rattle.lemidrosy.proofs.{Consoles.start_as_fits}
use Rattle.lemidrosy.proofs.console.lemidrosy_console_start.Goals as goal

pub of-requires : goal.of-requires
of-requires c =
    rw c.start-answer.ensures.value (start_as_fits _ _ _ _ _)

pub returns : goal.returns
returns c =
    let g = c.start-answer.ensures in record { fact = (c.of.ensures ∙ ap start_code g.value, g.w_after); words_after = g.w_after_2; clean = g.clean }
