-- `machine_console::line::write_recovered` meets its contract. Assumes nothing.
use Rattle.laws.specs.Basics.{arith, rules}
use Rattle.listing.proofs.Texts.{then}
use Rattle.machine_console.proofs.line.write_recovered.Goals as goal

pub returns : goal.returns
returns c =
    (then c.write_entries-members.ensures.0 c.write_valued.ensures.0, omega (arith, c.write_entries-members.ensures.1, c.write_valued.ensures.1))
