-- `library_calls::run_words::fill::put_message` meets its contract. Assumes nothing.
use Rattle.laws.specs.Basics.{◌∙◌, arith, length-set}
use Rattle.words.proofs.Reading.{set_is_put}
use Rattle.library_calls.proofs.run_words.fill.put_message.Goals as goal

pub bounds-w-k-2 : goal.bounds-w-k-2
bounds-w-k-2 c =
    simp length-set (omega arith)

pub bounds-w-k-3 : goal.bounds-w-k-3
bounds-w-k-3 c =
    simp length-set (omega arith)

pub bounds-w-k-4 : goal.bounds-w-k-4
bounds-w-k-4 c =
    simp length-set (omega arith)

pub put_vector-requires : goal.put_vector-requires
put_vector-requires c =
    simp length-set (omega arith)

pub shape_of-w : goal.shape_of-w
shape_of-w c =
    c.put_vector.auto.w ∙ simp length-set

pub returns : goal.returns
returns c =
    c.put_vector.ensures ∙ simp set_is_put
