-- `library_calls::run_words::read::vectors_of` meets its contract. Assumes nothing.
use Rattle.laws.specs.Basics.{arith, rules}
use Rattle.laws.specs.Loops.{below_none, step_set}
use Rattle.words.specs.Layout.{part_at, vector_in}
use Rattle.model.specs.Words.{zero_vector}
use Rattle.library_calls.proofs.{run_words.Tables.rows_of}
use Rattle.library_calls.proofs.run_words.read.vectors_of.Goals as goal

pub loop-p-init : goal.loop-p-init
loop-p-init c =
    (search rules, below_none _ _)

pub loop-p-preserved : goal.loop-p-preserved
loop-p-preserved c =
    let l = c.loop-p in let a = c.args in (search rules, step_set (λ q. vector_in a.w.now (part_at q)) _ l.vectors l.p l.invariant.1 _ c.vector_at-vector.ensures)

pub returns : goal.returns
returns c =
    let l = c.loop-p in rows_of c.args.w.now c.args.n l.p (λ q. vector_in c.args.w.now (part_at q)) zero_vector _ _ l.invariant.1 (omega arith) c.zero_vector-zeros.ensures c.requires.1 c.requires.2
