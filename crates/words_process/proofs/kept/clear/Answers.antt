-- `words_process::kept::clear` meets its contract. Assumes nothing.
use Rattle.laws.specs.Basics.{◌∙◌, arith, length-set, rules}
use Rattle.words.proofs.Reading.{set_is_put}
use Rattle.words_process.proofs.kept.clear.Goals as goal

pub bounds-w-p-2 : goal.bounds-w-p-2
bounds-w-p-2 c =
    simp length-set (omega arith)

pub clear_row-requires : goal.clear_row-requires
clear_row-requires c =
    simp length-set (omega arith)

pub shape_of-w : goal.shape_of-w
shape_of-w c =
    c.clear_row.auto.w ∙ simp length-set

pub returns : goal.returns
returns c =
    c.clear_row.ensures ∙ simp set_is_put
