-- `listing::output::line::refuse` meets its contract. Assumes nothing.
use Rattle.laws.specs.Basics.{arith}
use Rattle.listing.proofs.{output.Lines.refusal_line_lem, output.Lines.refusal_fits}
use Rattle.listing.proofs.output.line.refuse.Goals as goal

pub write_refusal-requires : goal.write_refusal-requires
write_refusal-requires c =
    rw (c.number_of.ensures, ← refusal_line_lem c.args.why c.args.number) (omega (arith, refusal_fits c.args.why c.args.number c.requires.0))

pub returns : goal.returns
returns c =
    let printed = rw (c.number_of.ensures, ← refusal_line_lem c.args.why c.args.number) at c.write_refusal.ensures in (printed, omega (arith, printed.next_place, refusal_fits c.args.why c.args.number c.requires.0))
