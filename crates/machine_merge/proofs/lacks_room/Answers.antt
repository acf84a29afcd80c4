-- `machine_merge::lacks_room` meets its contract.
-- Assumes nothing.
use Rattle.laws.specs.Basics.{lt-ltb, le-ltb}
use Rattle.machine_merge.specs.Words.{lacks_room_of}
use Rattle.machine_merge.proofs.lacks_room.Goals as goal

pub returns-then-memory-lt7 : goal.returns-then-memory-lt7
unfolding lacks_room_of
returns-then-memory-lt7 c =
    rw (lt-ltb _ _ c.if-memory-lt7.true)

pub returns-then-input-lt-LONGEST_WORD : goal.returns-then-input-lt-LONGEST_WORD
unfolding lacks_room_of
returns-then-input-lt-LONGEST_WORD c =
    rw (le-ltb _ _ c.if-memory-lt7.false, lt-ltb _ _ c.if-input-lt-LONGEST_WORD.true)

pub returns : goal.returns
unfolding lacks_room_of
returns c =
    rw (le-ltb _ _ c.if-memory-lt7.false, le-ltb _ _ c.if-input-lt-LONGEST_WORD.false)
