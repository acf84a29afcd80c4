-- `library_calls::run_words::read::marks_of` meets its contract. Assumes nothing.
use Rattle.laws.specs.Basics.{refl, false, arith, rules}
use Rattle.laws.specs.Loops.{below_none, step_set}
use Rattle.words.specs.Layout.{mark_in}
use Rattle.library_calls.proofs.{run_words.Tables.rows_of}
use Rattle.library_calls.proofs.run_words.read.marks_of.Goals as goal

pub loop-p-init : goal.loop-p-init
loop-p-init c =
    (search rules, below_none _ _)

pub loop-p-preserved : goal.loop-p-preserved
unfolding mark_in
loop-p-preserved c =
    let l = c.loop-p in let a = c.args in (search rules, step_set (mark_in a.w.now) _ l.sent l.p l.invariant.1 _ refl)

pub returns : goal.returns
returns c =
    let l = c.loop-p in rows_of c.args.w.now c.args.n l.p (mark_in c.args.w.now) false _ _ l.invariant.1 (omega arith) refl c.requires.1 c.requires.2
