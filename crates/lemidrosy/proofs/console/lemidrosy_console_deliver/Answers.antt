-- `lemidrosy::console::lemidrosy_console_deliver` meets its contract. Assumes nothing.
use Rattle.laws.specs.Basics.{◌∙◌, rules}
use Rattle.listing.specs.answers.Codes.{deliver_code}
use Rattle.lemidrosy.proofs.{Changing.changed, Consoles.deliver_as_fits}
use Rattle.lemidrosy.proofs.console.lemidrosy_console_deliver.Goals as goal

pub of-requires : goal.of-requires
of-requires c =
    rw c.deliver-delivered.ensures.answer_value (deliver_as_fits _ _ _ _ _)

pub returns : goal.returns
returns c =
    let g = c.deliver-delivered.ensures in (c.of.ensures ∙ (λ j. deliver_code (g.answer_value j) (g.rose_value j)), c.deliver-delivered.ensures.deleted_after, changed _ _ _ _ _ g.answer_value g.w_after c.deliver-delivered.ensures.w_unchanged c.deliver-delivered.ensures.leaves)
