-- `in_place::deliver::deliver_on` meets its contract. Assumes nothing.
use Rattle.std.specs.Prelude.{◌≡◌, ◌*◌}
use Rattle.laws.specs.Basics.{sym, ◌∙◌, ap, false, arith, ltb, length, rules, ltb-false}
use Rattle.words.specs.{Layout.count_of, messages.Places.place_of}
use Rattle.words.proofs.ViewSound.{sound_words}
use Rattle.in_place.proofs.{Losing.nothing, Losing.there, Losing.its_number, Receiving.list_short, Receiving.not_under_way, Receiving.renumbered}
use Rattle.in_place.proofs.deliver.deliver_on.Goals as goal

pub bounds-w-0 : goal.bounds-w-0
bounds-w-0 c =
    omega (arith, (sound_words c.args.w.now c.requires).size)

pub overflow_cast-n : goal.overflow_cast-n
overflow_cast-n c =
    record { fits = omega (arith, (sound_words c.args.w.now c.requires).few) }

pub are_deletions_short-short-requires : goal.are_deletions_short-short-requires
are_deletions_short-short-requires c =
    (sound_words c.args.w.now c.requires).few

pub returns-then-short : goal.returns-then-short
returns-then-short c =
    rw c.refuse.ensures (let z = (list_short c.args.w.now c.requires c.args.deleted.now c.args.m (sym c.are_deletions_short-short.ensures ∙ c.if-short.true)) in record { w_after = z.0; answer_value = z.1.0; rose_value = z.1.1.0; deleted_after = z.1.1.1.0; w_unchanged = z.1.1.1.1.0; leaves = z.1.1.1.1.1 })

pub place_of-found-requires : goal.place_of-found-requires
place_of-found-requires c =
    let h = sound_words c.args.w.now c.requires in (h.size, h.end)

pub deliver_from-requires : goal.deliver_from-requires
deliver_from-requires c =
    let long : let a = c.args in ltb (length a.deleted.now) (2 * count_of a.w.now * count_of a.w.now) ≡ false = sym c.are_deletions_short-short.ensures ∙ c.if-short.false in
    let e = there (place_of c.args.w.now c.args.m) _ (sym c.in-Some.is ∙ c.place_of-found.ensures) in (c.requires, ap (place_of c.args.w.now) (its_number c.args.w.now c.requires c.args.m _ e) ∙ e, ltb-false _ _ long)

pub returns-in-None : goal.returns-in-None
returns-in-None c =
    let long : let a = c.args in ltb (length a.deleted.now) (2 * count_of a.w.now * count_of a.w.now) ≡ false = sym c.are_deletions_short-short.ensures ∙ c.if-short.false in
    rw c.refuse-in-None.ensures (let z = (not_under_way c.args.w.now c.requires c.args.deleted.now c.args.m long
    (nothing (place_of c.args.w.now c.args.m) (sym c.in-None.is ∙ c.place_of-found.ensures))) in record { w_after = z.0; answer_value = z.1.0; rose_value = z.1.1.0; deleted_after = z.1.1.1.0; w_unchanged = z.1.1.1.1.0; leaves = z.1.1.1.1.1 })

pub returns-in-Some : goal.returns-in-Some
returns-in-Some c =
    let e = there (place_of c.args.w.now c.args.m) _ (sym c.in-Some.is ∙ c.place_of-found.ensures) in let z = renumbered c.args.w.now c.args.deleted.now c.args.m _ (its_number c.args.w.now c.requires c.args.m _ e) _ _ _ _ (c.deliver_from.ensures.w_after, (c.deliver_from.ensures.answer_value, (c.deliver_from.ensures.rose_value, (c.deliver_from.ensures.deleted_after, (c.deliver_from.ensures.w_unchanged, c.deliver_from.ensures.leaves))))) in record { w_after = z.0; answer_value = z.1.0; rose_value = z.1.1.0; deleted_after = z.1.1.1.0; w_unchanged = z.1.1.1.1.0; leaves = z.1.1.1.1.1 }
