-- `words_line::line::indexes_of` meets its contract. The loop's invariant: the indexes of the processes passed so far stand.
-- Assumes nothing.
use Rattle.std.specs.Prelude.{◌≡◌, ◌-◌, ◌≤◌}
use Rattle.laws.specs.Basics.{arith, get_or, rules}
use Rattle.laws.specs.Loops.{set_below, below_none, step_set}
use Rattle.words_line.specs.Line.{index_in_of, indexes_in}
use Rattle.words_line.proofs.line.indexes_of.Goals as goal

pub loop-p-init : goal.loop-p-init
loop-p-init c =
    (search rules, below_none _ _)

pub bounds-pasts-p : goal.bounds-pasts-p
bounds-pasts-p c =
    omega (arith, c.loop-p-test.true, c.requires.5.0)

pub overflow_cast-past : goal.overflow_cast-past
overflow_cast-past c =
    let small = c.shared_slice_known-in-loop-p-1.given c.loop-p.p in search (rules, small)

pub index_in-index-requires : goal.index_in-index-requires
index_in-index-requires c =
    let p = c.loop-p.p in let lt = c.loop-p-test.true in (c.requires.0, omega (arith, c.requires.1), c.requires.5.1 p lt, c.requires.3 p lt, c.requires.2 p lt, c.requires.4 p lt)

pub loop-p-preserved : goal.loop-p-preserved
loop-p-preserved c =
    let l = c.loop-p in let a = c.args in (search rules, step_set (λ q. index_in_of a.w.now q (get_or a.pasts.now q 0)) _ l.indexes l.p l.invariant.1 _ c.index_in-index.ensures)

pub returns : goal.returns
unfolding indexes_in
returns c =
    let l = c.loop-p in let e : l.p ≡ c.args.n = omega arith in
    rw e at l.invariant.1
