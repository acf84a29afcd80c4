-- `machine_judge::step` meets its contract, by the phase.
-- Assumes nothing.
use Rattle.laws.specs.Basics.{sym, ◌∙◌, arith, length}
use Rattle.machines.proofs.Driving.{stands_as, steps_as}
use Rattle.machine_judge.specs.{Judging.judging, Words.EnoughRoom}
use Rattle.machine_judge.proofs.Stepping.{no_room, room_by, is_reading, is_printing, read_too_far, printed_too_far, then_stops}
use Rattle.machine_judge.proofs.step.Goals as goal

pub returns-then-lacks_room : goal.returns-then-lacks_room
returns-then-lacks_room c =
    no_room c.args.memory.now c.args.input.now c.args.out.now _ (sym c.lacks_room.ensures ∙ c.if-lacks_room.true)

pub bounds-memory-0 : goal.bounds-memory-0
bounds-memory-0 c =
    let room : EnoughRoom (length c.args.memory.now) (length c.args.input.now) (length c.args.out.now) = room_by _ _ _ (sym c.lacks_room.ensures ∙ c.if-lacks_room.false) in
    omega (arith, room.0)

pub bounds-memory-1 : goal.bounds-memory-1
bounds-memory-1 c =
    let room : EnoughRoom (length c.args.memory.now) (length c.args.input.now) (length c.args.out.now) = room_by _ _ _ (sym c.lacks_room.ensures ∙ c.if-lacks_room.false) in
    omega (arith, room.0)

pub stop-requires : goal.stop-requires
stop-requires c =
    let room : EnoughRoom (length c.args.memory.now) (length c.args.input.now) (length c.args.out.now) = room_by _ _ _ (sym c.lacks_room.ensures ∙ c.if-lacks_room.false) in
    room.0

pub returns-then-count-gt-MOST_READ : goal.returns-then-count-gt-MOST_READ
returns-then-count-gt-MOST_READ c =
    let room : EnoughRoom (length c.args.memory.now) (length c.args.input.now) (length c.args.out.now) = room_by _ _ _ (sym c.lacks_room.ensures ∙ c.if-lacks_room.false) in
    stands_as judging
    (read_too_far c.args.memory.now c.args.input.now c.args.out.now room _ c.if-phase-eq-READING.true c.if-count-gt-MOST_READ.true)
    (c.stop.ensures _ _)

pub after_read-requires : goal.after_read-requires
after_read-requires c =
    let room : EnoughRoom (length c.args.memory.now) (length c.args.input.now) (length c.args.out.now) = room_by _ _ _ (sym c.lacks_room.ensures ∙ c.if-lacks_room.false) in
    (room, c.if-count-gt-MOST_READ.false)

pub returns-then-phase-eq-READING : goal.returns-then-phase-eq-READING
returns-then-phase-eq-READING c =
    let room : EnoughRoom (length c.args.memory.now) (length c.args.input.now) (length c.args.out.now) = room_by _ _ _ (sym c.lacks_room.ensures ∙ c.if-lacks_room.false) in
    steps_as judging _ _ _
    (is_reading c.args.memory.now c.args.input.now c.args.out.now room c.if-phase-eq-READING.true c.if-count-gt-MOST_READ.false)
    c.after_read.ensures

pub stop-requires-then-out-count : goal.stop-requires-then-out-count
stop-requires-then-out-count c =
    let room : EnoughRoom (length c.args.memory.now) (length c.args.input.now) (length c.args.out.now) = room_by _ _ _ (sym c.lacks_room.ensures ∙ c.if-lacks_room.false) in
    room.0

pub returns-then-out-count : goal.returns-then-out-count
returns-then-out-count c =
    let room : EnoughRoom (length c.args.memory.now) (length c.args.input.now) (length c.args.out.now) = room_by _ _ _ (sym c.lacks_room.ensures ∙ c.if-lacks_room.false) in
    stands_as judging
    (printed_too_far c.args.memory.now c.args.input.now c.args.out.now room _ c.if-phase-eq-PRINTING.true c.if-out-count.true)
    (c.stop-then-out-count.ensures _ _)

pub after_write-requires : goal.after_write-requires
after_write-requires c =
    let room : EnoughRoom (length c.args.memory.now) (length c.args.input.now) (length c.args.out.now) = room_by _ _ _ (sym c.lacks_room.ensures ∙ c.if-lacks_room.false) in
    room

pub returns-then-phase-eq-PRINTING : goal.returns-then-phase-eq-PRINTING
returns-then-phase-eq-PRINTING c =
    let room : EnoughRoom (length c.args.memory.now) (length c.args.input.now) (length c.args.out.now) = room_by _ _ _ (sym c.lacks_room.ensures ∙ c.if-lacks_room.false) in
    steps_as judging _ _ _
    (is_printing c.args.memory.now c.args.input.now c.args.out.now room c.if-phase-eq-PRINTING.true c.if-out-count.false)
    c.after_write.ensures

pub stop-requires-2 : goal.stop-requires-2
stop-requires-2 c =
    let room : EnoughRoom (length c.args.memory.now) (length c.args.input.now) (length c.args.out.now) = room_by _ _ _ (sym c.lacks_room.ensures ∙ c.if-lacks_room.false) in
    room.0

pub returns : goal.returns
returns c =
    let room : EnoughRoom (length c.args.memory.now) (length c.args.input.now) (length c.args.out.now) = room_by _ _ _ (sym c.lacks_room.ensures ∙ c.if-lacks_room.false) in
    stands_as judging
    (then_stops c.args.memory.now c.args.input.now c.args.out.now room _ c.if-phase-eq-READING.false c.if-phase-eq-PRINTING.false)
    (c.stop-2.ensures _ _)
