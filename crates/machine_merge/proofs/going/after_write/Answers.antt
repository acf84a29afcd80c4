-- `machine_merge::going::after_write` meets its contract.
-- Assumes nothing.
use Rattle.laws.specs.Basics.{rules}
use Rattle.machine_merge.proofs.{Leading.write_done, Leading.write_failed, Arriving.led}
use Rattle.machine_merge.proofs.going.after_write.Goals as goal

pub returns-then-is_done : goal.returns-then-is_done
returns-then-is_done c =
    λ trace at input. led (write_done _ _ (c.is_done.ensures at input) trace c.if-is_done.true) (c.stop.ensures input _)

pub returns : goal.returns
returns c =
    λ trace at input.
    led
    (write_failed _ _ (c.is_done.ensures at input) trace c.if-is_done.false)
    (c.fail.ensures input)
