-- `words::messages::clear` meets its contract. Assumes nothing.
use Rattle.laws.specs.Basics.{◌∙◌, arith, length-set, rules}
use Rattle.words.proofs.{Reading.set_is_put}
use Rattle.words.specs.messages.Places.{cleared}
use Rattle.words.proofs.messages.clear.Goals as goal

pub bounds-w-k-2 : goal.bounds-w-k-2
unfolding cleared
bounds-w-k-2 c =
    simp length-set (omega arith)

pub bounds-w-k-3 : goal.bounds-w-k-3
unfolding cleared
bounds-w-k-3 c =
    simp length-set (omega arith)

pub bounds-w-k-4 : goal.bounds-w-k-4
unfolding cleared
bounds-w-k-4 c =
    simp length-set (omega arith)

pub clear_row-requires : goal.clear_row-requires
unfolding cleared
clear_row-requires c =
    simp length-set (omega arith)

pub shape_of-w : goal.shape_of-w
unfolding cleared
shape_of-w c =
    c.clear_row.auto.w ∙ simp length-set

pub returns : goal.returns
unfolding cleared
returns c =
    c.clear_row.ensures ∙ simp set_is_put
