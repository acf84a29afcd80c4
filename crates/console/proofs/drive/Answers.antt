-- `console::drive` meets its contract: the loop goes through states of the machine, and ends where it stops. Assumes nothing.
use Rattle.laws.specs.Basics.{sym, ◌∙◌}
use Rattle.machines.proofs.Driving.{driven_first, driven_next, driven_less, driven_ends}
use Rattle.machine_console.specs.{Consoling.consoling}
use Rattle.machine_console.proofs.{Ending.consoling_ends, Driving.kept}
use Rattle.console.proofs.drive.Goals as goal

pub loop-source-init : goal.loop-source-init
loop-source-init g c =
    driven_first consoling c.begin-request.ensures

pub obey-obeyed-requires : goal.obey-obeyed-requires
obey-obeyed-requires g c =
    c.loop-source.invariant.asks.inside

pub loop-source-smaller : goal.loop-source-smaller
loop-source-smaller g c =
    let driven = c.loop-source.invariant in
    driven_less consoling driven (kept _ _ _ _ _ _ driven.asks.there c.obey-obeyed.ensures.leaves) _ c.step-request.ensures consoling_ends (sym c.goes_on.ensures ∙ c.loop-source-test.true)

pub loop-source-preserved : goal.loop-source-preserved
loop-source-preserved g c =
    let driven = c.loop-source.invariant in
    driven_next consoling driven (kept _ _ _ _ _ _ driven.asks.there c.obey-obeyed.ensures.leaves) _ c.step-request.ensures

pub returns : goal.returns
returns g c =
    driven_ends consoling c.loop-source.invariant (sym c.goes_on.ensures ∙ c.loop-source-test.false)
