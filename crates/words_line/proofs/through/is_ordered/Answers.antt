-- `words_line::through::is_ordered` meets its contract. The loop's invariant: whether a checkpoint passed so far comes before one of the states.
-- Assumes nothing.
use Rattle.std.specs.Prelude.{◌≡◌, ◌-◌, ◌≤◌}
use Rattle.laws.specs.Basics.{arith, rules}
use Rattle.laws.specs.{Loops.any_zero, Search.any_below}
use Rattle.words_line.specs.Through.{process_of, index_of_def, before_some}
use Rattle.words_line.proofs.{Iterations.any_or}
use Rattle.words_line.proofs.through.is_ordered.Goals as goal

pub loop-k-init : goal.loop-k-init
loop-k-init c =
    (search rules, any_zero _)

pub overflow_cast-named : goal.overflow_cast-named
overflow_cast-named c =
    omega (arith, c.requires.3 c.loop-k.k c.loop-k-test.true)

pub is_before_some-before-requires : goal.is_before_some-before-requires
is_before_some-before-requires c =
    (c.requires.0, c.requires.3 c.loop-k.k c.loop-k-test.true, c.requires.2, c.requires.4)

pub loop-k-preserved : goal.loop-k-preserved
loop-k-preserved c =
    let l = c.loop-k in let a = c.args in (search rules, any_or (λ j. before_some a.w.now a.starts a.m (process_of a.named.now j) (index_of_def a.named.now j)) l.k l.any _ l.invariant.1 c.is_before_some-before.ensures)

pub returns : goal.returns
returns c =
    let e : c.loop-k.k ≡ c.args.m = omega arith in rw e at c.loop-k.invariant.1
