-- `listing::output::line::print` meets its contract: the line is no longer than the room.
-- Assumes nothing.
use Rattle.laws.specs.Basics.{arith}
use Rattle.listing.proofs.{output.Lines.line_fits}
use Rattle.listing.proofs.output.line.print.Goals as goal

pub write_line-requires : goal.write_line-requires
write_line-requires c =
    let fits = line_fits c.args.summary c.args.deleted.now c.args.number c.requires.0 c.requires.2 (λ j. omega (arith, c.type_inv.deleted j)) in (c.requires.1, omega arith)

pub returns : goal.returns
returns c =
    let printed = c.write_line.ensures in let fits = line_fits c.args.summary c.args.deleted.now c.args.number c.requires.0 c.requires.2 (λ j. omega (arith, c.type_inv.deleted j)) in (printed, omega (arith, printed.next_place))
