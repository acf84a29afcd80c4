-- `library_calls::run_words::fill::put_process` meets its contract. Assumes nothing.
use Rattle.laws.specs.Basics.{◌∙◌, arith, length-set}
use Rattle.library_calls.proofs.{run_words.Steps.process_put}
use Rattle.library_calls.proofs.run_words.fill.put_process.Goals as goal

pub bounds-w-p-2 : goal.bounds-w-p-2
bounds-w-p-2 c =
    simp length-set (omega (arith, c.put_pins-fit.auto.w, c.put_vector.auto.w))

pub shape_of-w : goal.shape_of-w
shape_of-w c =
    simp length-set (c.put_pins-fit.auto.w ∙ c.put_vector.auto.w)

pub returns : goal.returns
returns c =
    let a = c.args in (c.put_pins-fit.ensures.0, process_put a.w.now _ _ a.p a.vector a.pins a.kept_count a.mark _ c.put_vector.ensures c.put_pins-fit.ensures.1 c.mark_word-x.ensures)
