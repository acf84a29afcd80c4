-- `library_readers::saved::bytes::write_sum` meets its contract. Assumes nothing.
use Rattle.laws.specs.Basics.{refl, arith, length-set, rules}
use Rattle.library_readers.specs.saved.Format.{sum_bytes}
use Rattle.library_readers.proofs.saved.bytes.write_sum.Goals as goal

pub bounds-bytes : goal.bounds-bytes
unfolding sum_bytes
bounds-bytes c =
    simp length-set (omega arith)

pub bounds-bytes-2 : goal.bounds-bytes-2
unfolding sum_bytes
bounds-bytes-2 c =
    simp length-set (omega arith)

pub returns : goal.returns
unfolding sum_bytes
returns c =
    refl
