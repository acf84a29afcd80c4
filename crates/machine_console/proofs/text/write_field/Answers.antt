-- `machine_console::text::write_field` meets its contract. Assumes nothing.
use Rattle.laws.specs.Basics.{rules}
use Rattle.machine_console.proofs.text.write_field.Goals as goal

pub returns : goal.returns
returns c =
    c.write_value.ensures
