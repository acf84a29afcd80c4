-- `lemidrosy::console::lemidrosy_console_send` meets its contract. Assumes nothing.
use Rattle.laws.specs.Basics.{◌∙◌, ap, rules}
use Rattle.listing.specs.answers.Codes.{send_code}
use Rattle.lemidrosy.proofs.{Changing.changed, Consoles.send_as_fits}
use Rattle.lemidrosy.proofs.console.lemidrosy_console_send.Goals as goal

pub of-requires : goal.of-requires
of-requires c =
    rw c.send-answer.ensures.value (send_as_fits _ _ _ _ _)

pub returns : goal.returns
returns c =
    let g = c.send-answer.ensures in (c.of.ensures ∙ ap send_code g.value, changed _ _ _ _ _ g.value g.w_after g.w_unchanged g.leaves)
