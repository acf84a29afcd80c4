-- `lemidrosy::readings::lemidrosy_numbers` meets its contract. Assumes nothing.
use Rattle.laws.specs.Basics.{ap, not, rules}
use Rattle.whole_runs.proofs.Unsound.{is_sound, is_unsound}
use Rattle.lemidrosy.proofs.{Unsound.numbers_unsound}
use Rattle.lemidrosy.proofs.readings.lemidrosy_numbers.Goals as goal

pub returns-then-not-is_sound : goal.returns-then-not-is_sound
returns-then-not-is_sound c =
    let z = numbers_unsound _ (is_unsound _ c.is_sound.ensures (ap not c.if-not-is_sound.true)) _ in record { value = z.0; numbers_after = z.1 }

pub numbers_on-requires : goal.numbers_on-requires
numbers_on-requires c =
    is_sound _ c.is_sound.ensures (ap not c.if-not-is_sound.false)

pub shape_of-numbers : goal.shape_of-numbers
shape_of-numbers c =
    c.numbers_on.auto.numbers

pub returns : goal.returns
returns c =
    record { value = c.numbers_on.ensures.value; numbers_after = c.numbers_on.ensures.numbers_after }
