-- `library_calls::run_words::read::kept_count_of` meets its contract. Assumes nothing.
use Rattle.laws.specs.Basics.{refl, arith, rules}
use Rattle.laws.specs.Loops.{below_none, step_set}
use Rattle.words.specs.Layout.{word, kept_count_at_of}
use Rattle.library_calls.proofs.{run_words.Tables.rows_of}
use Rattle.library_calls.proofs.run_words.read.kept_count_of.Goals as goal

pub loop-p-init : goal.loop-p-init
loop-p-init c =
    (search rules, below_none _ _)

pub loop-p-preserved : goal.loop-p-preserved
loop-p-preserved c =
    let l = c.loop-p in let a = c.args in (search rules, step_set (λ q. word a.w.now (kept_count_at_of q)) _ l.kept_count l.p l.invariant.1 _ c.number_of-many.ensures)

pub returns : goal.returns
returns c =
    let l = c.loop-p in rows_of c.args.w.now c.args.n l.p (λ q. word c.args.w.now (kept_count_at_of q)) 0 _ _ l.invariant.1 (omega arith) refl c.requires.1 c.requires.2
