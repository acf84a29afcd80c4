-- `machine_console::line::write_delivered` meets its contract. Assumes nothing.
use Rattle.laws.specs.Basics.{arith, rules}
use Rattle.listing.proofs.Texts.{then}
use Rattle.machine_console.proofs.line.write_delivered.Goals as goal

pub returns : goal.returns
returns c =
    let write-value = c.write_value-valued in let write-field = c.write_field-risen in let write-pairs = c.write_pairs in (then write-value.ensures.0 (then write-field.ensures.0 write-pairs.ensures.0), omega (arith, write-value.ensures.1, write-field.ensures.1, write-pairs.ensures.1))
