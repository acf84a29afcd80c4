-- `record::drive` meets its contract: the loop goes through states of the machine, and ends where it stops. Assumes nothing.
use Rattle.laws.specs.Basics.{sym, ◌∙◌}
use Rattle.machines.proofs.Driving.{driven_first, driven_next, driven_less, driven_ends}
use Rattle.machine_record.specs.{Machine.machine}
use Rattle.machine_record.proofs.{Ranks.machine_ends, Driving.kept}
use Rattle.record.proofs.drive.Goals as goal

pub loop-source-init : goal.loop-source-init
loop-source-init g c =
    driven_first machine c.begin-request.ensures

pub obey-obeyed-requires : goal.obey-obeyed-requires
obey-obeyed-requires g c =
    c.loop-source.invariant.asks.inside

pub loop-source-smaller : goal.loop-source-smaller
loop-source-smaller g c =
    let driven = c.loop-source.invariant in
    driven_less machine driven (kept _ _ _ _ _ _ _ driven.asks.there c.obey-obeyed.ensures.leaves) _ c.step-request.ensures machine_ends (sym c.goes_on.ensures ∙ c.loop-source-test.true)

pub loop-source-preserved : goal.loop-source-preserved
loop-source-preserved g c =
    let driven = c.loop-source.invariant in
    driven_next machine driven (kept _ _ _ _ _ _ _ driven.asks.there c.obey-obeyed.ensures.leaves) _ c.step-request.ensures

pub returns : goal.returns
returns g c =
    driven_ends machine c.loop-source.invariant (sym c.goes_on.ensures ∙ c.loop-source-test.false)
