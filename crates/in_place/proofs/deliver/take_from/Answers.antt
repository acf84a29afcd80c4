-- `in_place::deliver::take_from` meets its contract. Assumes nothing.
use Rattle.std.specs.Prelude.{◌<◌, None, Ok, Some}
use Rattle.laws.specs.Basics.{◌∙◌, ap, arith, rules, pick}
use Rattle.model.specs.{declared.Interval.Interval, Words.live_index_of}
use Rattle.words.specs.Layout.{count_of, message_in}
use Rattle.words.proofs.ViewSound.{sound_words, sound_part}
use Rattle.in_place.proofs.{Delivering.receiver_in, Receiving.taken_at, Receiving.own_early, Receiving.out_there}
use Rattle.in_place.proofs.deliver.take_from.Goals as goal

pub own_of-own-requires : goal.own_of-own-requires
own_of-own-requires c =
    let in_run : c.args.i < count_of c.args.w.now = omega (arith, c.requires.i_value.0, receiver_in c.args.w.now c.requires.w_value.0 (message_in c.args.w.now c.args.k).number c.args.k c.requires.w_value.1) in
    let k = sound_words c.args.w.now c.requires.w_value.0 in (k.size, omega (arith, k.few, in_run))

pub receive-received-requires : goal.receive-received-requires
receive-received-requires c =
    let in_run : c.args.i < count_of c.args.w.now = omega (arith, c.requires.i_value.0, receiver_in c.args.w.now c.requires.w_value.0 (message_in c.args.w.now c.args.k).number c.args.k c.requires.w_value.1) in
    let p = c.requires.w_value in (p.0, in_run, own_early c.args.w.now p.0 c.args.deleted.now c.args.k p.1 p.2 c.args.i in_run c.args.forced c.requires.i_value.3, p.2)

pub take_out-requires : goal.take_out-requires
take_out-requires c =
    let p = c.requires.w_value in out_there c.args.w.now p.0 c.args.deleted.now c.args.k p.1 p.2 c.args.i c.requires.i_value.0 _ _ _ c.receive-received.ensures.moves

pub answer_of-answer-requires : goal.answer_of-answer-requires
answer_of-answer-requires c =
    let in_run : c.args.i < count_of c.args.w.now = omega (arith, c.requires.i_value.0, receiver_in c.args.w.now c.requires.w_value.0 (message_in c.args.w.now c.args.k).number c.args.k c.requires.w_value.1) in
    omega (arith, (sound_part c.args.w.now c.requires.w_value.0 c.args.i in_run).own_some, ap (λ (x : Interval). x.0) c.own_of-own.ensures)

pub returns : goal.returns
returns c =
    let p = c.requires.w_value in let q = c.requires.i_value in let g = c.receive-received.ensures in let own = c.own_of-own.ensures in let z = taken_at c.args.w.now p.0 c.args.deleted.now c.args.k p.1 p.2 c.args.i q.0 c.args.carried q.1 c.args.forced q.2 q.3 _ _ _ _ _
    g.moves c.take_out.ensures
    (c.answer_of-answer.ensures ∙ (λ j. pick c.args.forced (Ok (record { forced = Some (live_index_of (own j)); deleted = g.gone_value j })) (Ok (record { forced = None; deleted = g.gone_value j }))))
    g.rose_value g.deleted_after in record { w_after = z.0; answer_value = z.1.0; rose_value = z.1.1.0; deleted_after = z.1.1.1.0; w_unchanged = z.1.1.1.1.0; leaves = z.1.1.1.1.1 }
