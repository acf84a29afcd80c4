-- `machine_simulate::print::write_field` meets its contract.
-- Assumes nothing.
use Rattle.laws.specs.Basics.{arith, rules}
use Rattle.listing.proofs.{Bounds.twenty_digits, Texts.then}
use Rattle.machine_simulate.proofs.print.write_field.Goals as goal

pub write_number-requires : goal.write_number-requires
write_number-requires c =
    let space = c.write_byte-after_space in omega (arith, space.ensures.next_place, space.auto.out, c.requires, twenty_digits c.args.x)

pub returns : goal.returns
returns c =
    let space = c.write_byte-after_space in let number = c.write_number in (then space.ensures number.ensures, omega (arith, space.ensures.next_place, number.ensures.next_place, twenty_digits c.args.x))
