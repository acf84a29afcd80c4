-- `library_judge::decision::reach::closure` meets its contract.
-- Assumes nothing.
use Rattle.laws.specs.Basics.{ap, arith, rules}
use Rattle.library_judge.proofs.decision.Passes.{mark, lowered_none, lowered_then, one_pass}
use Rattle.library_judge.proofs.decision.reach.closure.Goals as goal

pub loop-init : goal.loop-init
loop-init c =
    lowered_none _ _ c.requires c.args.start (search rules)

pub loop-preserved : goal.loop-preserved
loop-preserved c =
    let w = one_pass _ _ c.requires c.loop.reach _ c.loop.invariant.size c.pass_over.ensures in lowered_then _ _ c.requires _ _ _ c.loop.invariant w.lowered

pub loop-smaller : goal.loop-smaller
unfolding mark
loop-smaller c =
    let w = one_pass _ _ c.requires c.loop.reach _ c.loop.invariant.size c.pass_over.ensures in omega (arith, w.less, ap mark c.loop-test.true)

pub returns : goal.returns
returns c =
    let w = one_pass _ _ c.requires c.loop.reach _ c.loop.invariant.size c.pass_over.ensures in
    let v = lowered_then _ _ c.requires _ _ _ c.loop.invariant w.lowered in
    record { size = v.size; lower = v.lower; sound = v.sound; closed = w.closed c.loop-test.false }
