-- `library_readers::saved::bytes::sum_in` meets its contract. Assumes nothing.
use Rattle.laws.specs.Basics.{arith, rules}
use Rattle.library_readers.specs.saved.Format.{sum_in_of}
use Rattle.library_readers.proofs.saved.bytes.sum_in.Goals as goal

pub returns : goal.returns
unfolding sum_in_of
returns c =
    omega arith
