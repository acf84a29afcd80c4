-- `listing::write_line` meets its contract: the line of an accepted record is its texts one after the other.
-- Assumes nothing.
use Rattle.listing.proofs.{Texts.then, Texts.line_of_accepted}
use Rattle.listing.proofs.write_line.Goals as goal

pub returns-in-None : goal.returns-in-None
returns-in-None c =
    rw (line_of_accepted c.args.number c.args.summary c.args.deleted.now c.in-None.is)
    (then c.write_number-after_number.ensures (then c.write_byte-after_space.ensures (then c.write_byte-after_code.ensures (then c.write_accepted-whole.ensures c.write_byte.ensures))))
