-- `machine_console::step` meets its contract. Assumes nothing.
use Rattle.std.specs.Prelude.{◌≡◌}
use Rattle.laws.specs.Basics.{refl, sym, ◌∙◌, ap, true, length, rules, not-true, not-false}
use Rattle.machine_console.specs.declared.marks.Marks.{Marks}
use Rattle.machine_console.specs.Lent.{has_room_of, in_bounds_of}
use Rattle.machine_console.proofs.Stepping.{bounded, enough_room, not_state, no_room, no_bounds, room_kept, step_stands}
use Rattle.machine_console.proofs.step.Goals as goal

pub returns-then-not-has_room : goal.returns-then-not-has_room
returns-then-not-has_room c =
    not_state _ _ _ _ _ (no_room _ _ _ _ _ (sym c.has_room.ensures ∙ c.if-not-has_room.true))

pub read-m-requires : goal.read-m-requires
read-m-requires c =
    let room : has_room_of (length c.args.memory.now) (length c.args.words.now) (length c.args.input.now) (length c.args.out.now) ≡ true = sym c.has_room.ensures ∙ c.if-not-has_room.false in
    (enough_room _ _ _ _ room).memory_room

pub returns-then-not-in_bounds : goal.returns-then-not-in_bounds
returns-then-not-in_bounds c =
    let room : has_room_of (length c.args.memory.now) (length c.args.words.now) (length c.args.input.now) (length c.args.out.now) ≡ true = sym c.has_room.ensures ∙ c.if-not-has_room.false in
    not_state _ _ _ _ _ (no_bounds _ _ _ _ _ room
    (ap (λ (m : Marks). in_bounds_of m (length c.args.out.now)) (sym c.read-m.ensures) ∙ sym c.in_bounds.ensures ∙ c.if-not-in_bounds.true))

pub on-next-requires : goal.on-next-requires
on-next-requires c =
    let inside : in_bounds_of c.read-m.result (length c.args.out.now) ≡ true = sym c.in_bounds.ensures ∙ c.if-not-in_bounds.false in
    let room : has_room_of (length c.args.memory.now) (length c.args.words.now) (length c.args.input.now) (length c.args.out.now) ≡ true = sym c.has_room.ensures ∙ c.if-not-has_room.false in
    let b = bounded _ _ inside in let r = enough_room _ _ _ _ room in (b.done, b.kept, r.words_room, r.input_room, r.out_room)

pub put-requires : goal.put-requires
put-requires c =
    let room : has_room_of (length c.args.memory.now) (length c.args.words.now) (length c.args.input.now) (length c.args.out.now) ≡ true = sym c.has_room.ensures ∙ c.if-not-has_room.false in
    (enough_room _ _ _ _ room).memory_room

pub request-requires : goal.request-requires
request-requires c =
    (bounded _ _ c.on-next.ensures.bounds).kept

pub returns : goal.returns
returns c =
    let room : has_room_of (length c.args.memory.now) (length c.args.words.now) (length c.args.input.now) (length c.args.out.now) ≡ true = sym c.has_room.ensures ∙ c.if-not-has_room.false in
    let inside : in_bounds_of c.read-m.result (length c.args.out.now) ≡ true = sym c.in_bounds.ensures ∙ c.if-not-in_bounds.false in
    let before = room in let next = c.on-next in let put = c.put in step_stands _ _ _ _ _ _ _ _ _ _ _ _ before c.read-m.ensures inside (room_kept _ _ _ _ _ _ _ _ put.auto.memory c.on-next.auto.words refl c.on-next.auto.out before) put.ensures next.ensures c.request.ensures
