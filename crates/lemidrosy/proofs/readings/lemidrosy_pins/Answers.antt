-- `lemidrosy::readings::lemidrosy_pins` meets its contract. Assumes nothing.
use Rattle.laws.specs.Basics.{ap, not, rules}
use Rattle.whole_runs.proofs.Unsound.{is_sound, is_unsound}
use Rattle.lemidrosy.proofs.{Unsound.pins_unsound}
use Rattle.lemidrosy.proofs.readings.lemidrosy_pins.Goals as goal

pub returns-then-not-is_sound : goal.returns-then-not-is_sound
returns-then-not-is_sound c =
    let z = pins_unsound _ (is_unsound _ c.is_sound.ensures (ap not c.if-not-is_sound.true)) _ _ in record { value = z.0; pins_after = z.1 }

pub pins_on-requires : goal.pins_on-requires
pins_on-requires c =
    is_sound _ c.is_sound.ensures (ap not c.if-not-is_sound.false)

pub shape_of-pins : goal.shape_of-pins
shape_of-pins c =
    c.pins_on.auto.pins

pub returns : goal.returns
returns c =
    record { value = c.pins_on.ensures.value; pins_after = c.pins_on.ensures.pins_after }
