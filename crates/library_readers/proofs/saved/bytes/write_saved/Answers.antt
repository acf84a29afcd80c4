-- `library_readers::saved::bytes::write_saved` meets its contract. Assumes nothing.
use Rattle.laws.specs.Basics.{rules}
use Rattle.library_readers.proofs.{saved.Parts.whole_written}
use Rattle.library_readers.proofs.saved.bytes.write_saved.Goals as goal

pub returns : goal.returns
returns c =
    whole_written c.args.w.now c.args.bytes.now _ _ _ _ c.requires.0 c.requires.1
    c.write_heading.ensures c.write_words.ensures c.crc32c_of-sum.ensures c.write_sum.ensures
