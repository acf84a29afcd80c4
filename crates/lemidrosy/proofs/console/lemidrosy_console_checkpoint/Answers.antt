-- `lemidrosy::console::lemidrosy_console_checkpoint` meets its contract. Assumes nothing.
use Rattle.laws.specs.Basics.{◌∙◌, ap, rules}
use Rattle.listing.specs.answers.Codes.{checkpoint_code}
use Rattle.lemidrosy.proofs.{Changing.changed, Consoles.checkpoint_as_fits}
use Rattle.lemidrosy.proofs.console.lemidrosy_console_checkpoint.Goals as goal

pub of-requires : goal.of-requires
of-requires c =
    rw c.checkpoint-answer.ensures.value (checkpoint_as_fits _ _ _ _ _)

pub returns : goal.returns
returns c =
    let g = c.checkpoint-answer.ensures in (c.of.ensures ∙ ap checkpoint_code g.value, c.checkpoint-answer.ensures.deleted_after, changed _ _ _ _ _ g.value g.w_after c.checkpoint-answer.ensures.w_unchanged c.checkpoint-answer.ensures.leaves)
