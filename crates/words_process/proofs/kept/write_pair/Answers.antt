-- `words_process::kept::write_pair` meets its contract. Assumes nothing.
use Rattle.laws.specs.Basics.{arith, length-set, rules}
use Rattle.words_process.proofs.kept.write_pair.Goals as goal

pub bounds-deleted-gone-2 : goal.bounds-deleted-gone-2
bounds-deleted-gone-2 c =
    simp length-set (omega arith)
