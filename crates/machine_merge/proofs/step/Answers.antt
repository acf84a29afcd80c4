-- `machine_merge::step` meets its contract.
-- Assumes nothing.
use Rattle.std.specs.Prelude.{◌≡◌}
use Rattle.laws.specs.Basics.{not, sym, ◌∙◌, ap, true, List, ℕ, length, rules}
use Rattle.laws.specs.Below.{not_out}
use Rattle.machine_merge.specs.declared.marks.Marks.{Marks}
use Rattle.machine_merge.specs.Words.{EnoughRoom, in_bounds_of}
use Rattle.machine_merge.proofs.{Marking.bounded, Stepping.room_by, Stepping.no_room, Stepping.no_bounds, Stepping.step_stands}
use Rattle.machine_merge.proofs.step.Goals as goal

pub returns-then-lacks_room : goal.returns-then-lacks_room
returns-then-lacks_room c =
    let start = c.args in no_room start.memory.now start.input.now start.out.now _ (sym c.lacks_room.ensures ∙ c.if-lacks_room.true)

pub read-m-requires : goal.read-m-requires
read-m-requires c =
    let room : EnoughRoom (length c.args.memory.now) (length c.args.input.now) (length c.args.out.now) = room_by _ _ _ (sym c.lacks_room.ensures ∙ c.if-lacks_room.false) in
    room.0

pub returns-then-not-in_bounds : goal.returns-then-not-in_bounds
returns-then-not-in_bounds c =
    let outside = ap (λ (m : Marks). in_bounds_of m (length ((c.args.out.now)))) (sym c.read-m.ensures) ∙ sym c.in_bounds.ensures ∙ not_out _ true (ap not c.if-not-in_bounds.true) in no_bounds ((c.args.memory.now)) ((c.args.input.now)) ((c.args.out.now)) _ (sym c.lacks_room.ensures ∙ c.if-lacks_room.false) outside

pub on-next-requires : goal.on-next-requires
on-next-requires c =
    let inside : in_bounds_of c.read-m.result (length c.args.out.now) ≡ true = sym c.in_bounds.ensures ∙ not_out _ _ (ap not c.if-not-in_bounds.false) in
    let room : EnoughRoom (length c.args.memory.now) (length c.args.input.now) (length c.args.out.now) = room_by _ _ _ (sym c.lacks_room.ensures ∙ c.if-lacks_room.false) in
    let (fits, short) = bounded _ _ inside in
    let (one, two, three) = room in
    (fits, two, three, short)

pub put-requires : goal.put-requires
put-requires c =
    let room : EnoughRoom (length c.args.memory.now) (length c.args.input.now) (length c.args.out.now) = room_by _ _ _ (sym c.lacks_room.ensures ∙ c.if-lacks_room.false) in
    room.0

pub returns : goal.returns
returns c =
    let room : EnoughRoom (length c.args.memory.now) (length c.args.input.now) (length c.args.out.now) = room_by _ _ _ (sym c.lacks_room.ensures ∙ c.if-lacks_room.false) in
    let inside : in_bounds_of c.read-m.result (length c.args.out.now) ≡ true = sym c.in_bounds.ensures ∙ not_out _ _ (ap not c.if-not-in_bounds.false) in
    let on = c.on-next in let put = c.put in step_stands c.args.memory.now c.args.input.now c.args.out.now _ _ _ _ _ _ room c.read-m.ensures inside
    put.auto.memory on.auto.out put.ensures on.ensures c.request.ensures
