-- `replay::drive` meets its contract: the loop goes through states of the machine, and ends where it stops.
-- Assumes nothing.
use Rattle.laws.specs.Basics.{sym, ◌∙◌}
use Rattle.machine_replay.proofs.Driving.{driven_first, driven_next, driven_less, driven_ends, still_from_start}
use Rattle.replay.proofs.Sizes.{large_enough, stepped_alike, asks_alike}
use Rattle.replay.proofs.drive.Goals as goal

pub begin-request-requires : goal.begin-request-requires
begin-request-requires g c =
    (c.requires.0, large_enough _ _ _ c.requires.1 c.requires.2 c.requires.3)

pub loop-source-init : goal.loop-source-init
loop-source-init g c =
    driven_first _ _ _ _ _ _ _ c.begin-request.ensures.out_after c.begin-request.ensures.asks

pub obey-obeyed-requires : goal.obey-obeyed-requires
obey-obeyed-requires g c =
    c.loop-source.invariant.asked.inside

pub step_reached-request-requires : goal.step_reached-request-requires
step_reached-request-requires g c =
    still_from_start _ _ _ _ _ _ _ c.loop-source.invariant _ c.obey-obeyed.ensures.leaves

pub loop-source-smaller : goal.loop-source-smaller
loop-source-smaller g c =
    let loop = c.loop-source in
    let obeyed = c.obey-obeyed in
    let step = c.step_reached-request in
    let is = stepped_alike _ _ _ _ (obeyed.auto.input ∙ loop.auto.input) loop.auto.out _ _ _ step.ensures.out_after in
    driven_less _ _ _ _ _ _ _ loop.invariant _ obeyed.ensures.leaves _ _ _ _ step.result _ is (sym c.goes_on.ensures ∙ c.loop-source-test.true)

pub loop-source-preserved : goal.loop-source-preserved
loop-source-preserved g c =
    let loop = c.loop-source in
    let obeyed = c.obey-obeyed in
    let step = c.step_reached-request in
    let same_input = obeyed.auto.input ∙ loop.auto.input in
    let is = stepped_alike _ _ _ _ same_input loop.auto.out _ _ _ step.ensures.out_after in
    let asks = asks_alike _ _ (step.auto.input ∙ same_input) _ _ _ _ _ step.ensures.asks in
    driven_next _ _ _ _ _ _ _ loop.invariant _ obeyed.ensures.leaves _ _ _ _ step.result _ is asks step.ensures.from_start

pub returns : goal.returns
returns g c =
    driven_ends _ _ _ _ _ _ _ c.loop-source.invariant (sym c.goes_on.ensures ∙ c.loop-source-test.false)
