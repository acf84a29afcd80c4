-- `library_readers::row_on` meets its contract. Assumes nothing.
use Rattle.laws.specs.Basics.{refl, arith, rules}
use Rattle.words.proofs.ViewSound.{sound_words}
use Rattle.library_readers.proofs.Readings.{answer_is, nothing_reported, row_short, row_absent, row_read}
use Rattle.library_readers.proofs.row_on.Goals as goal

pub returns-then-row-n : goal.returns-then-row-n
returns-then-row-n c =
    let z = answer_is (row_short c.args.w.now c.requires.0 c.args.process c.args.from c.args.row.now (omega (arith, c.count_in-n.ensures, c.if-row-n.true))) c.refused.ensures refl in record { value = z.0; row_after = z.1 }

pub returns-then-n-process : goal.returns-then-n-process
returns-then-n-process c =
    let n = c.count_in-n.ensures in let z = answer_is (row_absent c.args.w.now c.requires.0 c.args.process c.args.from c.args.row.now (omega (arith, n, c.if-row-n.false)) (omega (arith, n, c.if-n-process.true))) c.refused-then-n-process.ensures refl in record { value = z.0; row_after = z.1 }

pub part_at-at-requires : goal.part_at-at-requires
part_at-at-requires c =
    omega (arith, c.count_in-n.ensures, c.if-n-process.false, (sound_words c.args.w.now c.requires.0).few)

pub overflow_add-at : goal.overflow_add-at
overflow_add-at c =
    omega (arith, c.requires.1, c.part_at-at.ensures, c.if-n-process.false, c.count_in-n.ensures, (sound_words c.args.w.now c.requires.0).few)

pub copy_words-requires : goal.copy_words-requires
copy_words-requires c =
    let h = sound_words c.args.w.now c.requires.0 in let n = c.count_in-n.ensures in (omega (arith, n, h.size, h.few, c.requires.1, c.part_at-at.ensures, c.if-n-process.false), omega (arith, n, c.if-row-n.false))

pub returns : goal.returns
returns c =
    let n = c.count_in-n.ensures in let z = answer_is (row_read c.args.w.now c.requires.0 c.args.process c.args.from c.args.row.now (omega (arith, n, c.if-row-n.false)) (omega (arith, n, c.if-n-process.false))) nothing_reported
    (rw (n, c.part_at-at.ensures) at c.copy_words.ensures) in record { value = z.0; row_after = z.1 }
