-- `machine_judge::after_write` meets its contract, by whether the line is written.
-- Assumes nothing.
use Rattle.machines.proofs.Driving.{stands_as}
use Rattle.machine_judge.specs.Judging.{judging}
use Rattle.machine_judge.proofs.{Stepping.led_written, Stepping.led_unwritten}
use Rattle.machine_judge.proofs.after_write.Goals as goal

pub returns-then-is_done : goal.returns-then-is_done
returns-then-is_done c =
    let done = c.is_done in stands_as judging
    (led_written _ _ _ (done.ensures c.args.line c.args.input.now) c.if-is_done.true)
    (c.stop.ensures _ _)

pub returns : goal.returns
returns c =
    let done = c.is_done in stands_as judging
    (led_unwritten _ _ _ (done.ensures c.args.line c.args.input.now) c.if-is_done.false)
    c.fail.ensures
