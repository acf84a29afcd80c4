-- `library_calls::run_words::fill::put_row` meets its contract. Assumes nothing.
use Rattle.library_calls.proofs.run_words.Steps.{row_refused, row_put, row_unused_lem}
use Rattle.library_calls.proofs.run_words.fill.put_row.Goals as goal

pub returns-then-kept_count-gt-PROCESSES : goal.returns-then-kept_count-gt-PROCESSES
returns-then-kept_count-gt-PROCESSES c =
    let a = c.args in row_refused a.p a.n a.vector a.pins a.kept_count a.mark a.w.now c.if-p-n.true c.if-kept_count-gt-PROCESSES.true

pub shape_of-w-then-p-n : goal.shape_of-w-then-p-n
shape_of-w-then-p-n c =
    c.put_process.auto.w

pub returns-then-p-n : goal.returns-then-p-n
returns-then-p-n c =
    let a = c.args in row_put a.p a.n a.vector a.pins a.kept_count a.mark a.w.now _ _ c.if-p-n.true c.if-kept_count-gt-PROCESSES.false c.put_process.ensures.0 c.put_process.ensures.1

pub returns : goal.returns
returns c =
    let a = c.args in row_unused_lem a.p a.n a.vector a.pins a.kept_count a.mark a.w.now _ _ c.if-p-n.false c.is_zero-zero.ensures c.are_nothing-nothing.ensures
