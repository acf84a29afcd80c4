-- `machine_console::line::write_numbers` meets its contract. Assumes nothing.
use Rattle.laws.specs.Basics.{arith, rules}
use Rattle.listing.proofs.{Bounds.twenty_digits, Texts.then}
use Rattle.machine_console.proofs.line.write_numbers.Goals as goal

pub write_number-numbered-requires : goal.write_number-numbered-requires
write_number-numbered-requires c =
    omega (arith, c.requires, twenty_digits c.args.number)

pub write_field-requires : goal.write_field-requires
write_field-requires c =
    omega (arith, c.requires, c.write_number-numbered.ensures.next_place, c.write_number-numbered.auto.out, twenty_digits c.args.number)

pub returns : goal.returns
returns c =
    (then c.write_number-numbered.ensures c.write_field.ensures.0, omega (arith, c.write_number-numbered.ensures.next_place, c.write_field.ensures.1, twenty_digits c.args.number))
