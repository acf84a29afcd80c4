-- `machine_merge::going::after_count` meets its contract.
-- Assumes nothing.
use Rattle.laws.specs.Basics.{rules}
use Rattle.machine_merge.proofs.{Leading.counted_four, Leading.counted_other, Arriving.led, Arriving.arrives_setting}
use Rattle.machine_merge.proofs.going.after_count.Goals as goal

pub returns-then-is_number : goal.returns-then-is_number
returns-then-is_number c =
    λ at input long.
    led (counted_four _ _ (c.is_number.ensures at input) c.if-is_number.true) (rw c.at.ensures (arrives_setting input _ long))

pub returns : goal.returns
returns c =
    λ at input long.
    led
    (counted_other _ _ (c.is_number.ensures at input) c.if-is_number.false)
    (c.say.ensures input)
