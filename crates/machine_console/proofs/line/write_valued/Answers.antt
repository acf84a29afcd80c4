-- `machine_console::line::write_valued` meets its contract. Assumes nothing.
use Rattle.laws.specs.Basics.{arith, rules}
use Rattle.listing.proofs.Texts.{then}
use Rattle.machine_console.proofs.line.write_valued.Goals as goal

pub returns : goal.returns
returns c =
    (then c.write_value-valued.ensures.0 c.write_pairs.ensures.0, omega (arith, c.write_value-valued.ensures.1, c.write_pairs.ensures.1))
