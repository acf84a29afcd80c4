-- `in_place::line::line_on` meets its contract: the list's length, the verdict on the failed set, then the line. Assumes nothing.
use Rattle.std.specs.Prelude.{◌≡◌, ◌≤◌, Ok}
use Rattle.laws.specs.Basics.{refl, sym, ◌∙◌, false, arith, ltb, length, rules, ltb-false}
use Prim.{tt}
use Rattle.words.specs.Layout.{count_of}
use Rattle.words.proofs.ViewSound.{sound_words}
use Rattle.in_place.proofs.{Lining.refused, Lining.line_short, Lining.line_refused, Lining.line_passed}
use Rattle.in_place.proofs.line.line_on.Goals as goal

pub bounds-w-0 : goal.bounds-w-0
bounds-w-0 c =
    omega (arith, (sound_words c.args.w.now c.requires).size)

pub overflow_cast-n : goal.overflow_cast-n
overflow_cast-n c =
    omega (arith, c.shared_slice_known-2-1.given 0)

pub returns-then-short : goal.returns-then-short
unfolding refused
returns-then-short c =
    rw (line_short c.args.w.now c.requires c.args.failed c.args.line.now (sym c.is_line_short-short.ensures ∙ c.if-short.true)) (record { w_value = refl; value = refl; line_after = refl })

pub line_within-requires : goal.line_within-requires
line_within-requires c =
    let long : let a = c.args in ltb (length a.line.now) (count_of a.w.now) ≡ false = sym c.is_line_short-short.ensures ∙ c.if-short.false in
    (c.requires, refl, ltb-false (length c.args.line.now) (count_of c.args.w.now) long)

pub returns-in-Err : goal.returns-in-Err
unfolding refused
returns-in-Err c =
    let long : let a = c.args in ltb (length a.line.now) (count_of a.w.now) ≡ false = sym c.is_line_short-short.ensures ∙ c.if-short.false in
    rw (line_refused c.args.w.now c.requires c.args.failed c.args.line.now long _ (sym c.recovery_admission-admission.ensures ∙ c.in-Err.is)) (record { w_value = refl; value = refl; line_after = refl })

pub returns-in-Ok : goal.returns-in-Ok
returns-in-Ok c =
    let long : let a = c.args in ltb (length a.line.now) (count_of a.w.now) ≡ false = sym c.is_line_short-short.ensures ∙ c.if-short.false in
    let accepted : c.recovery_admission-admission.result ≡ Ok tt = search rules in
    rw (line_passed c.args.w.now c.requires c.args.failed c.args.line.now long (sym c.recovery_admission-admission.ensures ∙ accepted)) (record { w_value = refl; value = c.line_within.ensures.value; line_after = c.line_within.ensures.line_after })
