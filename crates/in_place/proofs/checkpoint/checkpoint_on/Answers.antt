-- `in_place::checkpoint::checkpoint_on` meets its contract. Assumes nothing.
use Rattle.laws.specs.Basics.{sym, ◌∙◌, ap, arith, rules, ltb-false}
use Rattle.model.specs.declared.Interval.{Interval}
use Rattle.model.specs.Words.{live_index_of}
use Rattle.words.proofs.ViewSound.{sound_words, sound_part}
use Rattle.in_place.proofs.Checkpointing.{list_short, no_process, not_stored, stored, accepted_own}
use Rattle.in_place.proofs.checkpoint.checkpoint_on.Goals as goal

pub bounds-w-0 : goal.bounds-w-0
bounds-w-0 c =
    omega (arith, (sound_words c.args.w.now c.requires).size)

pub overflow_cast-n : goal.overflow_cast-n
overflow_cast-n c =
    record { fits = omega (arith, (sound_words c.args.w.now c.requires).few) }

pub are_deletions_short-short-requires : goal.are_deletions_short-short-requires
are_deletions_short-short-requires c =
    (sound_words c.args.w.now c.requires).few

pub returns-then-short : goal.returns-then-short
returns-then-short c =
    let z = list_short c.args.w.now c.requires c.args.i c.args.deleted.now (sym c.are_deletions_short-short.ensures ∙ c.if-short.true) in record { w_after = z.0; value = z.1.0; deleted_after = z.1.1.0; w_unchanged = z.1.1.1.0; leaves = z.1.1.1.1 }

pub returns-then-n-i : goal.returns-then-n-i
returns-then-n-i c =
    let z = no_process c.args.w.now c.requires c.args.i c.args.deleted.now (sym c.are_deletions_short-short.ensures ∙ c.if-short.false) c.if-n-i.true in record { w_after = z.0; value = z.1.0; deleted_after = z.1.1.0; w_unchanged = z.1.1.1.0; leaves = z.1.1.1.1 }

pub own_of-own-requires : goal.own_of-own-requires
own_of-own-requires c =
    let k = sound_words c.args.w.now c.requires in let lt = c.if-n-i.false in (k.size, omega (arith, k.few, lt))

pub checkpoint-gone-requires : goal.checkpoint-gone-requires
checkpoint-gone-requires c =
    let lt = c.if-n-i.false in (c.requires, lt, accepted_own c.args.w.now c.requires c.args.i lt (sym c.in-Ok.is ∙ c.storing_admission-admission.ensures), ltb-false _ _ (sym c.are_deletions_short-short.ensures ∙ c.if-short.false))

pub live_index-requires : goal.live_index-requires
live_index-requires c =
    let lt = c.if-n-i.false in omega (arith, (sound_part c.args.w.now c.requires c.args.i lt).own_some, ap (λ (x : Interval). x.0) c.own_of-own.ensures)

pub returns-in-Err : goal.returns-in-Err
returns-in-Err c =
    let lt = c.if-n-i.false in let z = not_stored c.args.w.now c.requires c.args.i c.args.deleted.now (sym c.are_deletions_short-short.ensures ∙ c.if-short.false) lt _ (sym c.in-Err.is ∙ c.storing_admission-admission.ensures) in record { w_after = z.0; value = z.1.0; deleted_after = z.1.1.0; w_unchanged = z.1.1.1.0; leaves = z.1.1.1.1 }

pub returns-in-Ok : goal.returns-in-Ok
returns-in-Ok c =
    let lt = c.if-n-i.false in let t = c.checkpoint-gone in let z = stored c.args.w.now c.requires c.args.i c.args.deleted.now (sym c.are_deletions_short-short.ensures ∙ c.if-short.false) lt (sym c.in-Ok.is ∙ c.storing_admission-admission.ensures) _ _ _ _ t.ensures.moves t.ensures.deleted_after t.ensures.value (c.live_index.ensures ∙ ap (λ (x : Interval). live_index_of x) c.own_of-own.ensures) in record { w_after = z.0; value = z.1.0; deleted_after = z.1.1.0; w_unchanged = z.1.1.1.0; leaves = z.1.1.1.1 }
