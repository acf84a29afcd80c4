-- `machine_simulate::arguments::hyphen_in` meets its contract. The loop's invariant: the first hyphen of the bytes passed.
-- Assumes nothing.
use Rattle.std.specs.Prelude.{◌≡◌, ◌-◌, ◌≤◌}
use Rattle.laws.specs.Basics.{arith, length, get_or, rules}
use Rattle.laws.specs.Loops.{iter, iter_none, iter_more}
use Rattle.machine_simulate.specs.Arguments.{hyphen_or, hyphen_in_of}
use Rattle.machine_simulate.proofs.arguments.hyphen_in.Goals as goal

pub loop-i-init : goal.loop-i-init
loop-i-init c =
    (search rules, search rules, search rules, iter_none _ _)

pub loop-i-preserved : goal.loop-i-preserved
loop-i-preserved c =
    let l = c.loop-i in (search rules, l.invariant.1, c.hyphen_or-next.ensures.1, iter_more _ _ l.place l.i c.hyphen_or-next.result l.invariant.3 (rw l.invariant.1 at c.hyphen_or-next.ensures.0))

pub returns : goal.returns
unfolding hyphen_in_of
returns c =
    let l = c.loop-i in let e : l.i ≡ length c.args.word.now = omega arith in
    (rw e at l.invariant.3, search rules)
