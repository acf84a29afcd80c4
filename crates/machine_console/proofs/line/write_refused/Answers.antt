-- `machine_console::line::write_refused` meets its contract. Assumes nothing.
use Rattle.laws.specs.Basics.{arith, rules}
use Rattle.listing.proofs.Texts.{then}
use Rattle.machine_console.proofs.{Parts.refused_line, Parts.printed_as}
use Rattle.machine_console.proofs.line.write_refused.Goals as goal

pub returns : goal.returns
returns c =
    let write-numbers = c.write_numbers-after_code in let write_byte = c.write_byte in (printed_as (refused_line c.args.number c.args.refused) (then write-numbers.ensures.0 write_byte.ensures), omega (arith, write-numbers.ensures.1, write_byte.ensures.next_place))
