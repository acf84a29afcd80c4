-- `machine_console::line::write_list` meets its contract. Assumes nothing.
use Rattle.laws.specs.Basics.{arith, rules}
use Rattle.listing.proofs.Texts.{nothing}
use Rattle.machine_console.specs.Text.{list_text}
use Rattle.machine_console.proofs.line.write_list.Goals as goal

pub returns-in-None : goal.returns-in-None
unfolding list_text
returns-in-None c =
    rw c.in-None.is (nothing c.args.out.now c.args.at, omega arith)

pub returns-in-Some : goal.returns-in-Some
unfolding list_text
returns-in-Some c =
    rw c.in-Some.is c.write_pairs.ensures
