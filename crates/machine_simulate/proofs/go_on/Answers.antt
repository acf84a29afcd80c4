-- `machine_simulate::go_on` meets its contract.
-- Assumes nothing.
use Rattle.laws.specs.Basics.{rules}
use Rattle.machines.proofs.Driving.{stands_as, steps_as}
use Rattle.machine_simulate.specs.Simulating.{simulating}
use Rattle.machine_simulate.proofs.{Stepping.tabled_too_far, Stepping.is_tabling}
use Rattle.machine_simulate.proofs.go_on.Goals as goal

pub returns-then-spacings-gt-LAST_SPACING : goal.returns-then-spacings-gt-LAST_SPACING
returns-then-spacings-gt-LAST_SPACING c =
    let at-kept = c.kept-k in let at-if1 = c.if-spacings-gt-LAST_SPACING in let at-stop = c.stop in stands_as simulating
    (tabled_too_far c.args.memory.now c.args.input.now c.args.out.now c.requires.0 _ c.requires.1 at-kept.result at-kept.ensures at-if1.true)
    (at-stop.ensures _ _)

pub returns : goal.returns
returns c =
    let at-kept = c.kept-k in let at-if1 = c.if-spacings-gt-LAST_SPACING in let at-after-line = c.after_line in steps_as simulating _ _ _
    (is_tabling c.args.memory.now c.args.input.now c.args.out.now c.requires.0 c.requires.1 at-kept.result at-kept.ensures at-if1.false)
    (at-after-line.ensures _)
