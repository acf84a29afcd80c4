-- `in_place_recover::recover_on` meets its contract: the lengths of the lists, the verdict on the failed set, then the recovery. Assumes nothing.
use Rattle.std.specs.Prelude.{◌≡◌, ◌||◌, ◌*◌, Ok}
use Rattle.laws.specs.Basics.{refl, sym, ◌∙◌, false, arith, ltb, length, rules, ltb-false}
use Rattle.laws.specs.Truth.{or_none}
use Prim.{tt}
use Rattle.words.specs.Layout.{count_of}
use Rattle.words.proofs.ViewSound.{sound_words}
use Rattle.in_place_recover.proofs.{Recovering.lists_short, Recovering.set_refused}
use Rattle.in_place_recover.proofs.recover_on.Goals as goal

pub bounds-w-0 : goal.bounds-w-0
bounds-w-0 c =
    omega (arith, (sound_words c.args.w.now c.requires).size)

pub overflow_cast-n : goal.overflow_cast-n
overflow_cast-n c =
    record { fits = omega (arith, (sound_words c.args.w.now c.requires).few) }

pub is_too_short-short-requires : goal.is_too_short-short-requires
is_too_short-short-requires c =
    (sound_words c.args.w.now c.requires).few

pub returns-then-short : goal.returns-then-short
returns-then-short c =
    let z = lists_short c.args.w.now c.requires c.args.failed c.args.deleted.now c.args.line.now (sym c.is_too_short-short.ensures ∙ c.if-short.true) in record { w_after = z.0; value = z.1.0; deleted_after = z.1.1.0; line_after = z.1.1.1.0; w_unchanged = z.1.1.1.1.0; leaves = z.1.1.1.1.1 }

pub recover_within-requires : goal.recover_within-requires
recover_within-requires c =
    let long : let a = c.args in let n = count_of a.w.now in (ltb (length a.deleted.now) (2 * n * n) || ltb (length a.line.now) n) ≡ false = sym c.is_too_short-short.ensures ∙ c.if-short.false in
    let accepted : c.recovery_admission-admission.result ≡ Ok tt = search rules in
    let n = count_of c.args.w.now in let room = or_none (ltb (length c.args.deleted.now) (2 * n * n)) (ltb (length c.args.line.now) n) long in (
      c.requires,
      refl,
      ltb-false (length c.args.deleted.now) (2 * n * n) room.0,
      ltb-false (length c.args.line.now) n room.1,
      sym c.recovery_admission-admission.ensures ∙ accepted,
    )

pub returns-in-Err : goal.returns-in-Err
returns-in-Err c =
    let long : let a = c.args in let n = count_of a.w.now in (ltb (length a.deleted.now) (2 * n * n) || ltb (length a.line.now) n) ≡ false = sym c.is_too_short-short.ensures ∙ c.if-short.false in
    let z = set_refused c.args.w.now c.requires c.args.failed c.args.deleted.now c.args.line.now long _ (sym c.recovery_admission-admission.ensures ∙ c.in-Err.is) in record { w_after = z.0; value = z.1.0; deleted_after = z.1.1.0; line_after = z.1.1.1.0; w_unchanged = z.1.1.1.1.0; leaves = z.1.1.1.1.1 }
