-- `library_readers::saved::bytes::write_word` meets its contract. Assumes nothing.
use Rattle.laws.specs.Basics.{arith, length-set, rules}
use native.Mathlib.Numerals.{add-one}
use Rattle.library_readers.specs.saved.Format.{word_bytes}
use Rattle.library_readers.proofs.saved.bytes.write_word.Goals as goal

pub bounds-bytes-at-2 : goal.bounds-bytes-at-2
unfolding word_bytes
bounds-bytes-at-2 c =
    simp length-set (omega arith)

pub returns : goal.returns
unfolding word_bytes
returns c =
    rw add-one
