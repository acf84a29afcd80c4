-- `words_process::kept::move_up` meets its contract. Assumes nothing.
use Rattle.laws.specs.Basics.{◌∙◌, arith, length-set, rules}
use Rattle.words.proofs.Reading.{set_is_put}
use Rattle.words_process.specs.Kept.{moved_up}
use Rattle.words_process.proofs.kept.move_up.Goals as goal

pub bounds-w-p-4 : goal.bounds-w-p-4
bounds-w-p-4 c =
    simp length-set (omega arith)

pub put_row-requires : goal.put_row-requires
put_row-requires c =
    simp length-set (omega arith)

pub shape_of-w : goal.shape_of-w
shape_of-w c =
    c.put_row.auto.w ∙ simp length-set

pub returns : goal.returns
unfolding moved_up
returns c =
    c.put_row.ensures ∙ rw c.row_at-row.ensures (simp set_is_put)
