-- `machine_console::text::write_value` meets its contract. Assumes nothing.
use Rattle.laws.specs.Basics.{arith, rules}
use Rattle.listing.proofs.Texts.{then}
use Rattle.machine_console.specs.Text.{field_text}
use Rattle.machine_console.proofs.{Parts.value_length}
use Rattle.machine_console.proofs.text.write_value.Goals as goal

pub write_value-requires : goal.write_value-requires
write_value-requires c =
    omega (arith, c.requires, c.write_byte-after_space.ensures.next_place, c.write_byte-after_space.auto.out, value_length c.args.value)

pub returns : goal.returns
unfolding field_text
returns c =
    (then c.write_byte-after_space.ensures c.write_value.ensures, omega (arith, c.write_byte-after_space.ensures.next_place, c.write_value.ensures.next_place, value_length c.args.value))
