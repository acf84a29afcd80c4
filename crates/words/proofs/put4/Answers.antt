-- `words::put4` meets its contract. Assumes nothing.
use Rattle.laws.specs.Basics.{arith, length-set, rules}
use Rattle.words.proofs.{Reading.set_is_put}
use Rattle.words.proofs.put4.Goals as goal

pub bounds-w-at-2 : goal.bounds-w-at-2
bounds-w-at-2 c =
    simp length-set (omega arith)

pub bounds-w-at-3 : goal.bounds-w-at-3
bounds-w-at-3 c =
    simp length-set (omega arith)

pub bounds-w-at-4 : goal.bounds-w-at-4
bounds-w-at-4 c =
    simp length-set (omega arith)

pub returns : goal.returns
returns c =
    simp set_is_put
