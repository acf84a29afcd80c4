-- `library_calls::run_words::read::pins_of` meets its contract. Assumes nothing.
use Rattle.laws.specs.Basics.{arith, rules}
use Rattle.laws.specs.Loops.{below_none, step_set}
use Rattle.words.specs.Layout.{pins_at_of, pins_in}
use Rattle.model.specs.Words.{no_pins_of}
use Rattle.library_calls.proofs.{run_words.Tables.rows_of}
use Rattle.library_calls.proofs.run_words.read.pins_of.Goals as goal

pub loop-p-init : goal.loop-p-init
loop-p-init c =
    (search rules, below_none _ _)

pub loop-p-preserved : goal.loop-p-preserved
loop-p-preserved c =
    let l = c.loop-p in let a = c.args in (search rules, step_set (λ q. pins_in a.w.now (pins_at_of q)) _ l.pins l.p l.invariant.1 _ c.pins_at-row.ensures)

pub returns : goal.returns
returns c =
    let l = c.loop-p in rows_of c.args.w.now c.args.n l.p (λ q. pins_in c.args.w.now (pins_at_of q)) no_pins_of _ _ l.invariant.1 (omega arith) c.no_pins-none.ensures c.requires.1 c.requires.2
