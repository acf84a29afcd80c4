-- `listing::write_accepted` meets its contract: its five texts stand one after the other.
-- Assumes nothing.
use Rattle.whole_runs.specs.Listing.{accepted_text}
use Rattle.listing.specs.{Lines.reply_of}
use Rattle.listing.proofs.{Texts.then}
use Rattle.listing.proofs.write_accepted.Goals as goal

pub returns : goal.returns
unfolding accepted_text reply_of
returns c =
    then c.write_byte-after_space.ensures (then c.write_value-after_value.ensures (then c.write_byte-after_separator.ensures (then c.write_number-after_count.ensures c.write_deletions.ensures)))
