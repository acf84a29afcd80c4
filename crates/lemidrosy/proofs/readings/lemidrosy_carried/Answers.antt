-- `lemidrosy::readings::lemidrosy_carried` meets its contract. Assumes nothing.
use Rattle.laws.specs.Basics.{ap, not, rules}
use Rattle.whole_runs.proofs.Unsound.{is_sound, is_unsound}
use Rattle.lemidrosy.proofs.{Unsound.carried_unsound}
use Rattle.lemidrosy.proofs.readings.lemidrosy_carried.Goals as goal

pub returns-then-not-is_sound : goal.returns-then-not-is_sound
returns-then-not-is_sound c =
    let z = carried_unsound _ (is_unsound _ c.is_sound.ensures (ap not c.if-not-is_sound.true)) _ _ in record { value = z.0; vector_after = z.1 }

pub carried_on-requires : goal.carried_on-requires
carried_on-requires c =
    is_sound _ c.is_sound.ensures (ap not c.if-not-is_sound.false)

pub shape_of-vector : goal.shape_of-vector
shape_of-vector c =
    c.carried_on.auto.vector

pub returns : goal.returns
returns c =
    record { value = c.carried_on.ensures.value; vector_after = c.carried_on.ensures.vector_after }
