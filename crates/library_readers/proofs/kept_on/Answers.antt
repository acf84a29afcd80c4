-- `library_readers::kept_on` meets its contract. Assumes nothing.
use Rattle.std.specs.Prelude.{◌≡◌, ◌≤◌, ◌<◌}
use Rattle.laws.specs.Basics.{refl, ◌∙◌, ap, arith, rules}
use Rattle.words.specs.Layout.{word}
use Rattle.words.proofs.ViewSound.{sound_words}
use Rattle.library_readers.proofs.{Readings.answer_is, Readings.kept_short, Readings.kept_absent, Readings.kept_read}
use Rattle.library_readers.proofs.kept_on.Goals as goal

pub overflow_mul-n : goal.overflow_mul-n
overflow_mul-n c =
    omega (arith, c.count_in-n.ensures, (sound_words c.args.w.now c.requires).few)

pub returns-then-kept-n : goal.returns-then-kept-n
returns-then-kept-n c =
    let z = answer_is (kept_short c.args.w.now c.requires c.args.process c.args.kept.now (omega (arith, c.count_in-n.ensures, c.if-kept-n.true))) c.refused.ensures refl in record { value = z.0; kept_after = z.1 }

pub returns-then-n-process : goal.returns-then-n-process
returns-then-n-process c =
    let n = c.count_in-n.ensures in let z = answer_is (kept_absent c.args.w.now c.requires c.args.process c.args.kept.now (omega (arith, n, c.if-kept-n.false)) (omega (arith, n, c.if-n-process.true))) c.refused-then-n-process.ensures refl in record { value = z.0; kept_after = z.1 }

pub kept_count_at-kept_count_at-requires : goal.kept_count_at-kept_count_at-requires
kept_count_at-kept_count_at-requires c =
    omega (arith, c.count_in-n.ensures, c.if-n-process.false, (sound_words c.args.w.now c.requires).few)

pub bounds-w-kept_count_at : goal.bounds-w-kept_count_at
bounds-w-kept_count_at c =
    let h = sound_words c.args.w.now c.requires in omega (arith, h.size, h.few, c.count_in-n.ensures, c.if-n-process.false, c.kept_count_at-kept_count_at.ensures)

pub write_kept-requires : goal.write_kept-requires
write_kept-requires c =
    let h = sound_words c.args.w.now c.requires in let n = c.count_in-n.ensures in let p = h.parts c.args.process (omega (arith, n, c.if-n-process.false)) in let keptCount = c.number_of-kept_count.ensures ∙ ap (word c.args.w.now) c.kept_count_at-kept_count_at.ensures in (
      h.size,
      omega (arith, n, c.if-n-process.false, h.few),
      omega (arith, keptCount, p.kept_count_most, h.few),
      omega (arith, n, keptCount, p.kept_count_most, c.if-kept-n.false),
      λ k less. p.used k (omega (arith, keptCount, less)),
    )

pub counted-requires : goal.counted-requires
counted-requires c =
    let h = sound_words c.args.w.now c.requires in let n = c.count_in-n.ensures in let p = h.parts c.args.process (omega (arith, n, c.if-n-process.false)) in omega (arith, c.number_of-kept_count.ensures ∙ ap (word c.args.w.now) c.kept_count_at-kept_count_at.ensures, p.kept_count_most, h.few)

pub returns : goal.returns
returns c =
    let n = c.count_in-n.ensures in let keptCount = c.number_of-kept_count.ensures ∙ ap (word c.args.w.now) c.kept_count_at-kept_count_at.ensures in let z = answer_is (kept_read c.args.w.now c.requires c.args.process c.args.kept.now (omega (arith, n, c.if-kept-n.false)) (omega (arith, n, c.if-n-process.false)))
    (rw keptCount at c.counted.ensures) (rw keptCount at c.write_kept.ensures) in record { value = z.0; kept_after = z.1 }
