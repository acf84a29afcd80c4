-- `listing::write_pair` meets its contract: its four texts stand one after the other.
-- Assumes nothing.
use Rattle.listing.specs.Lines.{pair_text}
use Rattle.listing.proofs.Texts.{then}
use Rattle.listing.proofs.write_pair.Goals as goal

pub returns : goal.returns
unfolding pair_text
returns c =
    then c.write_byte-after_space.ensures (then (rw c.from.ensures at c.write_number-after_process.ensures) (then c.write_byte-after_separator.ensures (rw c.from-2.ensures at c.write_number.ensures)))
