-- `lemidrosy::console::lemidrosy_console_list` meets its contract. Assumes nothing.
use Rattle.laws.specs.Basics.{◌∙◌, ap, rules}
use Rattle.lemidrosy.specs.Console.{list_code}
use Rattle.lemidrosy.proofs.{Consoles.list_as_fits}
use Rattle.lemidrosy.proofs.console.lemidrosy_console_list.Goals as goal

pub of_list-requires : goal.of_list-requires
of_list-requires c =
    rw c.list-answer.ensures.value (list_as_fits _ _ _ _)

pub returns : goal.returns
returns c =
    (c.of_list.ensures ∙ ap list_code c.list-answer.ensures.value, c.list-answer.ensures.deleted_after)
