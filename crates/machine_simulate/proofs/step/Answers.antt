-- `machine_simulate::step` meets its contract.
-- Assumes nothing.
use Rattle.laws.specs.Basics.{sym, ◌∙◌, ap, List, ℕ, arith, length, get_or, rules}
use Rattle.machines.proofs.Driving.{stands_as, steps_as}
use Rattle.machine_simulate.specs.{Simulating.Asking, Simulating.simulating, Words.EnoughRoom}
use Rattle.machine_simulate.proofs.{Standing.room_by}
use Rattle.machine_simulate.proofs.Stepping.{no_room, is_counting, is_asking, is_printing, then_stops, one_most}
use Rattle.machine_simulate.proofs.step.Goals as goal

pub returns-then-lacks_room : goal.returns-then-lacks_room
returns-then-lacks_room c =
    no_room c.args.memory.now c.args.input.now c.args.out.now _ (sym c.lacks_room.ensures ∙ c.if-lacks_room.true)

pub bounds-memory-0 : goal.bounds-memory-0
bounds-memory-0 c =
    let room : EnoughRoom (length c.args.memory.now) (length c.args.input.now) (length c.args.out.now) = room_by _ _ _ (sym c.lacks_room.ensures ∙ c.if-lacks_room.false) in
    omega (arith, room.0)

pub after_count-requires : goal.after_count-requires
after_count-requires c =
    let room : EnoughRoom (length c.args.memory.now) (length c.args.input.now) (length c.args.out.now) = room_by _ _ _ (sym c.lacks_room.ensures ∙ c.if-lacks_room.false) in
    room

pub returns-then-phase-eq-COUNTING : goal.returns-then-phase-eq-COUNTING
returns-then-phase-eq-COUNTING c =
    let room : EnoughRoom (length c.args.memory.now) (length c.args.input.now) (length c.args.out.now) = room_by _ _ _ (sym c.lacks_room.ensures ∙ c.if-lacks_room.false) in
    steps_as simulating _ _ _ (is_counting c.args.memory.now c.args.input.now c.args.out.now room c.if-phase-eq-COUNTING.true) c.after_count.ensures

pub kept-k-requires : goal.kept-k-requires
kept-k-requires c =
    let room : EnoughRoom (length c.args.memory.now) (length c.args.input.now) (length c.args.out.now) = room_by _ _ _ (sym c.lacks_room.ensures ∙ c.if-lacks_room.false) in
    room.0

pub after_word-requires : goal.after_word-requires
after_word-requires c =
    let room : EnoughRoom (length c.args.memory.now) (length c.args.input.now) (length c.args.out.now) = room_by _ _ _ (sym c.lacks_room.ensures ∙ c.if-lacks_room.false) in
    (room, one_most _ c.if-phase-eq-COUNTING.false, c.if-phase-le4.true)

pub returns-then-phase-le4 : goal.returns-then-phase-le4
returns-then-phase-le4 c =
    let room : EnoughRoom (length c.args.memory.now) (length c.args.input.now) (length c.args.out.now) = room_by _ _ _ (sym c.lacks_room.ensures ∙ c.if-lacks_room.false) in
    let kept = c.kept-k in steps_as simulating _ _ _
    (is_asking c.args.memory.now c.args.input.now c.args.out.now room c.if-phase-eq-COUNTING.false c.if-phase-le4.true ∙ ap (Asking (get_or c.args.memory.now 0 0)) (sym kept.ensures))
    c.after_word.ensures

pub after_last-requires : goal.after_last-requires
after_last-requires c =
    let room : EnoughRoom (length c.args.memory.now) (length c.args.input.now) (length c.args.out.now) = room_by _ _ _ (sym c.lacks_room.ensures ∙ c.if-lacks_room.false) in
    room

pub returns-then-phase-eq-PRINTING : goal.returns-then-phase-eq-PRINTING
returns-then-phase-eq-PRINTING c =
    let room : EnoughRoom (length c.args.memory.now) (length c.args.input.now) (length c.args.out.now) = room_by _ _ _ (sym c.lacks_room.ensures ∙ c.if-lacks_room.false) in
    steps_as simulating _ _ _ (is_printing c.args.memory.now c.args.input.now c.args.out.now room c.if-phase-eq-PRINTING.true) (c.after_last.ensures _)

pub go_on-requires : goal.go_on-requires
go_on-requires c =
    let room : EnoughRoom (length c.args.memory.now) (length c.args.input.now) (length c.args.out.now) = room_by _ _ _ (sym c.lacks_room.ensures ∙ c.if-lacks_room.false) in
    (room, c.if-phase-eq-TABLING.true)

pub stop-requires : goal.stop-requires
stop-requires c =
    let room : EnoughRoom (length c.args.memory.now) (length c.args.input.now) (length c.args.out.now) = room_by _ _ _ (sym c.lacks_room.ensures ∙ c.if-lacks_room.false) in
    room.0

pub returns : goal.returns
returns c =
    let room : EnoughRoom (length c.args.memory.now) (length c.args.input.now) (length c.args.out.now) = room_by _ _ _ (sym c.lacks_room.ensures ∙ c.if-lacks_room.false) in
    stands_as simulating
    (then_stops c.args.memory.now c.args.input.now c.args.out.now room _ c.if-phase-le4.false c.if-phase-eq-PRINTING.false c.if-phase-eq-TABLING.false)
    (c.stop.ensures _ _)
