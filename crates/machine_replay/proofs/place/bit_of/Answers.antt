-- `machine_replay::place::bit_of` meets its contract.
-- Assumes nothing.
use Rattle.machine_replay.specs.Standing.{bit_of}
use Rattle.machine_replay.proofs.place.bit_of.Goals as goal

pub returns-then-b : goal.returns-then-b
unfolding bit_of
returns-then-b c =
    rw c.if-b.true

pub returns-else-b : goal.returns-else-b
unfolding bit_of
returns-else-b c =
    rw c.if-b.false
