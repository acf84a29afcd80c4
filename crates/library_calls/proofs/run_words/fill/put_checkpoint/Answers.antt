-- `library_calls::run_words::fill::put_checkpoint` meets its contract. Assumes nothing.
use Rattle.laws.specs.Basics.{◌∙◌, arith, length-set, rules}
use Rattle.library_calls.proofs.{run_words.Tests.index_below, run_words.Steps.checkpoint_put}
use Rattle.library_calls.proofs.run_words.fill.put_checkpoint.Goals as goal

pub pin_word-x-requires : goal.pin_word-x-requires
pin_word-x-requires c =
    index_below _ (search rules) (search rules)

pub bounds-w-p-2 : goal.bounds-w-p-2
bounds-w-p-2 c =
    simp length-set (omega arith)

pub put_vector-requires : goal.put_vector-requires
put_vector-requires c =
    simp length-set (omega arith)

pub shape_of-w : goal.shape_of-w
shape_of-w c =
    c.put_vector.auto.w ∙ simp length-set

pub returns : goal.returns
returns c =
    let a = c.args in checkpoint_put a.w.now _ a.p a.k a.c _ c.pin_word-x.ensures.0 c.put_vector.ensures
