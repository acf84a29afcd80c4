-- `machine_judge::lacks_room` meets its contract.
-- Assumes nothing.
use Rattle.laws.specs.Basics.{lt-ltb, le-ltb}
use Rattle.machine_judge.specs.Words.{lacks_room_of}
use Rattle.machine_judge.proofs.lacks_room.Goals as goal

pub returns-then-memory-lt2 : goal.returns-then-memory-lt2
unfolding lacks_room_of
returns-then-memory-lt2 c =
    rw (lt-ltb _ _ c.if-memory-lt2.true)

pub returns-then-input-lt-MOST_READ : goal.returns-then-input-lt-MOST_READ
unfolding lacks_room_of
returns-then-input-lt-MOST_READ c =
    rw (le-ltb _ _ c.if-memory-lt2.false, lt-ltb _ _ c.if-input-lt-MOST_READ.true)

pub returns : goal.returns
unfolding lacks_room_of
returns c =
    rw (le-ltb _ _ c.if-memory-lt2.false, le-ltb _ _ c.if-input-lt-MOST_READ.false)
