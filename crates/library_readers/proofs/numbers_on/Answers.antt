-- `library_readers::numbers_on` meets its contract. Assumes nothing.
use Rattle.std.specs.Prelude.{◌≡◌, ◌≤◌, ◌<◌}
use Rattle.laws.specs.Basics.{refl, ◌∙◌, rules}
use Rattle.words.proofs.ViewSound.{sound_words}
use Rattle.library_readers.proofs.Readings.{answer_is, nothing_reported, numbers_short, numbers_read}
use Rattle.library_readers.proofs.numbers_on.Goals as goal

pub returns-then-numbers-lt-NUMBERS : goal.returns-then-numbers-lt-NUMBERS
returns-then-numbers-lt-NUMBERS c =
    let z = answer_is (numbers_short c.args.w.now c.requires c.args.numbers.now c.if-numbers-lt-NUMBERS.true) c.refused.ensures refl in record { value = z.0; numbers_after = z.1 }

pub write_numbers-requires : goal.write_numbers-requires
write_numbers-requires c =
    ((sound_words c.args.w.now c.requires).size, c.if-numbers-lt-NUMBERS.false)

pub returns : goal.returns
returns c =
    let z = answer_is (numbers_read c.args.w.now c.requires c.args.numbers.now c.if-numbers-lt-NUMBERS.false) nothing_reported c.write_numbers.ensures in record { value = z.0; numbers_after = z.1 }
