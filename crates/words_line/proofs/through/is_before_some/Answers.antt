-- `words_line::through::is_before_some` meets its contract. The loop's invariant: whether the checkpoint comes before a state passed so far.
-- Assumes nothing.
use Rattle.std.specs.Prelude.{◌≡◌, ◌+◌, ◌-◌, ◌≤◌}
use Rattle.laws.specs.Basics.{◌∙◌, ap, arith, ltb, get_or, rules}
use Rattle.laws.specs.{Loops.any_zero, Search.any_below}
use Rattle.model.specs.declared.Interval.{Interval}
use Rattle.words.specs.Layout.{word}
use Rattle.words_line.specs.Through.{before_some}
use Rattle.words_line.proofs.{Iterations.any_or}
use Rattle.words_line.proofs.through.is_before_some.Goals as goal

pub loop-k-init : goal.loop-k-init
loop-k-init c =
    (search rules, any_zero _)

pub overflow_cast-starts : goal.overflow_cast-starts
overflow_cast-starts c =
    omega (arith, c.requires.3 c.loop-k.k c.loop-k-test.true)

pub overflow_add-starts : goal.overflow_add-starts
overflow_add-starts c =
    omega (arith, c.requires.1, c.requires.3 c.loop-k.k c.loop-k-test.true)

pub offset_bounds-w-starts : goal.offset_bounds-w-starts
offset_bounds-w-starts c =
    omega (arith, c.requires.1, c.requires.3 c.loop-k.k c.loop-k-test.true)

pub bounds-w-starts : goal.bounds-w-starts
bounds-w-starts c =
    omega (arith, c.requires.0, c.requires.1, c.requires.3 c.loop-k.k c.loop-k-test.true)

pub loop-k-preserved : goal.loop-k-preserved
loop-k-preserved c =
    let l = c.loop-k in let a = c.args in (search rules, any_or (λ j. ltb a.index (word a.w.now (get_or a.starts j 0 + a.p))) l.k l.any _ l.invariant.1 (ap (λ (x : Interval). ltb a.index x.0) c.interval_of-known.ensures))

pub returns : goal.returns
unfolding before_some
returns c =
    let e : c.loop-k.k ≡ c.args.m = omega arith in rw e at c.loop-k.invariant.1
