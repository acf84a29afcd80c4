-- `in_place::send::put_sent` meets its contract. Assumes nothing.
use Rattle.std.specs.Prelude.{◌≡◌, ◌∷◌, ◌++◌, ◌+◌, ◌*◌, ◌≤◌, ◌<◌}
use Rattle.laws.specs.Basics.{◌∙◌, ap, List, [], ℕ, arith, set, length-set}
use Rattle.model.specs.declared.{Interval.Interval}
use Rattle.words.specs.{Layout.wide2, Layout.mark_at, Layout.part_at, Layout.vector_in, Puts.puts, Puts.puts2}
use Rattle.words.proofs.{Reading.set_is_put, ViewSound.sound_words}
use Rattle.words.specs.messages.Places.{with_room, put_last_of}
use Rattle.in_place.specs.Sending.{sent_in, sent_words}
use Rattle.in_place.proofs.{Sending.EnoughRoom, Sending.with_room_lem}
use Rattle.in_place.proofs.send.put_sent.Goals as goal

-- What was put, step by step.
sent_by : (w v u t : List ℕ) (i j n : ℕ) (row : List Interval) → v ≡ with_room w → n ≡ wide2 v 2 → row ≡ vector_in v (part_at i)
    → u ≡ put_last_of v (record { number = n + 1; sender = i; receiver = j; vector = row }) → t ≡ puts u (puts2 2 (n + 1)) → set t (mark_at i) 1 ≡ sent_words w i j
unfolding sent_words sent_in
sent_by w v u t i j n row e f g h k = rw (k, h, g, f, e) (set_is_put _ _ _)

pub make_room-requires : goal.make_room-requires
make_room-requires c =
    (sound_words c.args.w.now c.requires.0).size

pub wide2-number-requires : goal.wide2-number-requires
wide2-number-requires c =
    let enough_room : EnoughRoom c.args.w.now c.make_room.new.w = rw c.make_room.ensures (with_room_lem c.args.w.now c.requires.0 c.requires.3) in
    let g = enough_room in omega (arith, g.long)

pub overflow_add-number : goal.overflow_add-number
overflow_add-number c =
    let enough_room : EnoughRoom c.args.w.now c.make_room.new.w = rw c.make_room.ensures (with_room_lem c.args.w.now c.requires.0 c.requires.3) in
    let last_is : c.wide2-number.result ≡ wide2 c.args.w.now 2 = let g = enough_room in c.wide2-number.ensures ∙ rw (g.rest 2 (omega arith) (λ z. omega arith), g.rest 3 (omega arith) (λ z. omega arith)) in
    omega (arith, last_is, c.requires.4)

pub overflow_mul-i : goal.overflow_mul-i
overflow_mul-i c =
    let few : c.args.i < 16 = let h = sound_words c.args.w.now c.requires.0 in omega (arith, c.requires.1, h.few) in
    omega (arith, few)

pub overflow_add-i : goal.overflow_add-i
overflow_add-i c =
    let few : c.args.i < 16 = let h = sound_words c.args.w.now c.requires.0 in omega (arith, c.requires.1, h.few) in
    omega (arith, few)

pub vector_at-vector-requires : goal.vector_at-vector-requires
vector_at-vector-requires c =
    let enough_room : EnoughRoom c.args.w.now c.make_room.new.w = rw c.make_room.ensures (with_room_lem c.args.w.now c.requires.0 c.requires.3) in
    let few : c.args.i < 16 = let h = sound_words c.args.w.now c.requires.0 in omega (arith, c.requires.1, h.few) in
    omega (arith, enough_room.long, few)

pub put_last-requires : goal.put_last-requires
put_last-requires c =
    let enough_room : EnoughRoom c.args.w.now c.make_room.new.w = rw c.make_room.ensures (with_room_lem c.args.w.now c.requires.0 c.requires.3) in
    let few : c.args.i < 16 = let h = sound_words c.args.w.now c.requires.0 in omega (arith, c.requires.1, h.few) in
    let few_to : c.args.j < 16 = let h = sound_words c.args.w.now c.requires.0 in omega (arith, c.requires.2, h.few) in
    let g = enough_room in (g.long, g.room, omega (arith, g.rest 1 (omega arith) (λ z. omega arith), c.requires.3), few, few_to)

pub put2-requires : goal.put2-requires
put2-requires c =
    let enough_room : EnoughRoom c.args.w.now c.make_room.new.w = rw c.make_room.ensures (with_room_lem c.args.w.now c.requires.0 c.requires.3) in
    omega (arith, c.put_last.auto.w, enough_room.long)

pub overflow_add-w : goal.overflow_add-w
overflow_add-w c =
    let few : c.args.i < 16 = let h = sound_words c.args.w.now c.requires.0 in omega (arith, c.requires.1, h.few) in
    let from_few : c.args.i < 16 = few in
    omega (arith, from_few)

pub offset_bounds-w-i : goal.offset_bounds-w-i
offset_bounds-w-i c =
    let few : c.args.i < 16 = let h = sound_words c.args.w.now c.requires.0 in omega (arith, c.requires.1, h.few) in
    let from_few : c.args.i < 16 = few in
    omega (arith, from_few)

pub bounds-w-i : goal.bounds-w-i
bounds-w-i c =
    let enough_room : EnoughRoom c.args.w.now c.make_room.new.w = rw c.make_room.ensures (with_room_lem c.args.w.now c.requires.0 c.requires.3) in
    let few : c.args.i < 16 = let h = sound_words c.args.w.now c.requires.0 in omega (arith, c.requires.1, h.few) in
    omega (arith, c.put2.auto.w, c.put_last.auto.w, enough_room.long, few)

pub shape_of-w : goal.shape_of-w
shape_of-w c =
    simp length-set (c.put2.auto.w ∙ c.put_last.auto.w ∙ c.make_room.auto.w)

pub returns : goal.returns
returns c =
    let enough_room : EnoughRoom c.args.w.now c.make_room.new.w = rw c.make_room.ensures (with_room_lem c.args.w.now c.requires.0 c.requires.3) in
    let last_is : c.wide2-number.result ≡ wide2 c.args.w.now 2 = let g = enough_room in c.wide2-number.ensures ∙ rw (g.rest 2 (omega arith) (λ z. omega arith), g.rest 3 (omega arith) (λ z. omega arith)) in (
      sent_by c.args.w.now _ _ _ c.args.i c.args.j _ _ c.make_room.ensures c.wide2-number.ensures c.vector_at-vector.ensures c.put_last.ensures c.put2.ensures,
      ap (λ (k : ℕ). k + 1) last_is,
    )
