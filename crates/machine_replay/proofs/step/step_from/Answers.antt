-- `machine_replay::step::step_from` meets its contract.
-- Assumes nothing.
use Rattle.std.specs.Prelude.{◌≡◌}
use Rattle.laws.specs.Basics.{refl, sym, ◌∙◌, arith, rules, not-true, not-false}
use Rattle.machine_replay.specs.declared.place.Place.{Place}
use Rattle.machine_replay.specs.Standing.{Holds, state_in, state_of}
use Rattle.machine_replay.proofs.{Places.narrow_stopped, Places.outside_stopped}
use Rattle.machine_replay.proofs.Steps.{state_of_lem, stepped_there, asks_there, too_short, stays}
use Rattle.machine_replay.proofs.step.step_from.Goals as goal

pub returns-then-memory-lt-NUMBERS : goal.returns-then-memory-lt-NUMBERS
returns-then-memory-lt-NUMBERS c =
    let a = c.args in let z = stays a.words.now a.memory.now a.input.now a.out.now (too_short a.words.now a.memory.now a.input.now a.out.now c.if-memory-lt-NUMBERS.true) _ _ _ _ in record { out_after = z.0; asks = z.1 }

pub returns-then-not-is_room_enough : goal.returns-then-not-is_room_enough
returns-then-not-is_room_enough c =
    let a = c.args in let tested = c.is_room_enough in let narrow = narrow_stopped _ a.words.now a.input.now a.out.now (sym tested.ensures ∙ c.if-not-is_room_enough.true) in let z = stays a.words.now a.memory.now a.input.now a.out.now (state_of_lem a.words.now a.memory.now a.input.now a.out.now c.if-memory-lt-NUMBERS.false _ refl ∙ narrow) _ _ _ _ in record { out_after = z.0; asks = z.1 }

pub returns-then-not-is_inside : goal.returns-then-not-is_inside
returns-then-not-is_inside c =
    let a = c.args in let tested = c.is_inside in let load = c.load-p in let outside = outside_stopped load.result a.words.now a.input.now a.out.now (sym tested.ensures ∙ c.if-not-is_inside.true) in let there = state_of_lem a.words.now a.memory.now a.input.now a.out.now c.if-memory-lt-NUMBERS.false load.result load.ensures in let z = stays a.words.now a.memory.now a.input.now a.out.now (there ∙ outside) _ _ _ _ in record { out_after = z.0; asks = z.1 }

pub after-q-requires : goal.after-q-requires
after-q-requires c =
    let holds : Holds c.load-p.result c.args.words.now c.args.input.now c.args.out.now = record { room = sym c.is_room_enough.ensures ∙ c.if-not-is_room_enough.false; there = sym c.is_inside.ensures ∙ c.if-not-is_inside.false } in
    let stands : state_of c.args.words.now c.args.memory.now c.args.input.now c.args.out.now ≡ state_in c.load-p.result c.args.words.now c.args.input.now c.args.out.now = state_of_lem c.args.words.now c.args.memory.now c.args.input.now c.args.out.now c.if-memory-lt-NUMBERS.false c.load-p.result c.load-p.ensures in
    (holds, λ e. rw stands at (c.requires e))

pub request_of-requires : goal.request_of-requires
request_of-requires c =
    let holds : Holds c.load-p.result c.args.words.now c.args.input.now c.args.out.now = record { room = sym c.is_room_enough.ensures ∙ c.if-not-is_room_enough.false; there = sym c.is_inside.ensures ∙ c.if-not-is_inside.false } in
    rw (c.after-q.auto.words, c.after-q.auto.input, c.after-q.auto.out) holds.room

pub returns : goal.returns
returns c =
    let stands : state_of c.args.words.now c.args.memory.now c.args.input.now c.args.out.now ≡ state_in c.load-p.result c.args.words.now c.args.input.now c.args.out.now = state_of_lem c.args.words.now c.args.memory.now c.args.input.now c.args.out.now c.if-memory-lt-NUMBERS.false c.load-p.result c.load-p.ensures in
    let after = c.after-q in let words = after.new.words in let input = after.new.input in let out = after.new.out in let store = c.store in let a = c.args in let then = state_of_lem words store.new.memory input out (omega (arith, store.auto.memory, c.if-memory-lt-NUMBERS.false)) after.result (sym store.ensures) in record { out_after = then ∙ after.ensures ∙ stepped_there a.words.now a.memory.now a.input.now a.out.now c.load-p.result c.load-p.ensures stands _ _ a.answer; asks = asks_there words store.new.memory input out after.result (sym store.ensures) then _ _ c.request_of.ensures }
