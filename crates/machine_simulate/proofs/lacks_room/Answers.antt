-- `machine_simulate::lacks_room` meets its contract.
-- Assumes nothing.
use Rattle.laws.specs.Basics.{lt-ltb, le-ltb}
use Rattle.machine_simulate.specs.Words.{lacks_room_of}
use Rattle.machine_simulate.proofs.lacks_room.Goals as goal

pub returns-then-memory-lt8 : goal.returns-then-memory-lt8
unfolding lacks_room_of
returns-then-memory-lt8 c =
    let at-if1 = c.if-memory-lt8 in rw (lt-ltb _ _ at-if1.true)

pub returns-then-input-lt-LONGEST_WORD : goal.returns-then-input-lt-LONGEST_WORD
unfolding lacks_room_of
returns-then-input-lt-LONGEST_WORD c =
    let at-if1 = c.if-memory-lt8 in let at-if2 = c.if-input-lt-LONGEST_WORD in rw (le-ltb _ _ at-if1.false, lt-ltb _ _ at-if2.true)

pub returns : goal.returns
unfolding lacks_room_of
returns c =
    let at-if1 = c.if-memory-lt8 in let at-if2 = c.if-input-lt-LONGEST_WORD in rw (le-ltb _ _ at-if1.false, le-ltb _ _ at-if2.false)
