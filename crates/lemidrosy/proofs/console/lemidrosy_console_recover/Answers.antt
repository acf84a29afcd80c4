-- `lemidrosy::console::lemidrosy_console_recover` meets its contract. Assumes nothing.
use Rattle.std.specs.Prelude.{◌≡◌}
use Rattle.laws.specs.Basics.{◌∙◌, ap, rules}
use Rattle.listing.specs.answers.Codes.{recover_code}
use Rattle.lemidrosy.proofs.{Changing.changed, Consoles.recover_as_fits}
use Rattle.lemidrosy.proofs.console.lemidrosy_console_recover.Goals as goal

pub of-requires : goal.of-requires
of-requires c =
    rw c.recover-answer.ensures.value (recover_as_fits _ _ _ _ _ _)

pub returns : goal.returns
returns c =
    let g = c.recover-answer.ensures in
    (c.of.ensures ∙ ap recover_code g.value, g.deleted_after, g.line_after, changed _ _ _ _ _ g.value g.w_after g.w_unchanged g.leaves)
