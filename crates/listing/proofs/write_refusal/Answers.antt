-- `listing::write_refusal` meets its contract: its four texts stand one after the other.
-- Assumes nothing.
use Rattle.listing.specs.{Lines.refusal_line}
use Rattle.listing.proofs.{Texts.then}
use Rattle.listing.proofs.write_refusal.Goals as goal

pub returns : goal.returns
unfolding refusal_line
returns c =
    then c.write_number-after_number.ensures (then c.write_byte-after_space.ensures (then (rw c.from.ensures at c.write_number-after_code.ensures) c.write_byte.ensures))
