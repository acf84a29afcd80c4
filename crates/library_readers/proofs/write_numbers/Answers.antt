-- `library_readers::write_numbers` meets its contract. Assumes nothing.
use Rattle.std.specs.Prelude.{◌≡◌, ◌∷◌}
use Rattle.laws.specs.Basics.{◌∙◌, List, [], ℕ, arith, set, length-set, sets, rules}
use Rattle.words.specs.Layout.{word, wide2, wide4}
use Rattle.library_readers.specs.Written.{numbers_in}
use Rattle.library_readers.proofs.write_numbers.Goals as goal

five : (w l : List ℕ) (n last many written deleted : ℕ) → n ≡ word w 0 → last ≡ wide2 w 2 → many ≡ word w 1 → written ≡ wide4 w 4 → deleted ≡ wide4 w 8
    → set (set (set (set (set l 0 n) 1 last) 2 many) 3 written) 4 deleted ≡ sets l 0 (numbers_in w)
five w l n last many written deleted a b c d e = rw (a, b, c, d, e)

pub bounds-out-1 : goal.bounds-out-1
bounds-out-1 c =
    simp length-set (omega arith)

pub bounds-out-2 : goal.bounds-out-2
bounds-out-2 c =
    simp length-set (omega arith)

pub bounds-out-3 : goal.bounds-out-3
bounds-out-3 c =
    simp length-set (omega arith)

pub bounds-out-4 : goal.bounds-out-4
bounds-out-4 c =
    simp length-set (omega arith)

pub returns : goal.returns
returns c =
    let a = c.args in five a.w.now a.out.now _ _ _ _ _ c.wide-n.ensures c.wide2-last.ensures c.wide-many.ensures c.wide4-written.ensures c.wide4-deleted.ensures
