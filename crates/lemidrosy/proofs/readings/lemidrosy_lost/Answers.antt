-- `lemidrosy::readings::lemidrosy_lost` meets its contract. Assumes nothing.
use Rattle.laws.specs.Basics.{ap, not, rules}
use Rattle.whole_runs.proofs.Unsound.{is_sound, is_unsound}
use Rattle.lemidrosy.proofs.{Unsound.lost_unsound}
use Rattle.lemidrosy.proofs.readings.lemidrosy_lost.Goals as goal

pub returns-then-not-is_sound : goal.returns-then-not-is_sound
returns-then-not-is_sound c =
    let z = lost_unsound _ (is_unsound _ c.is_sound.ensures (ap not c.if-not-is_sound.true)) _ _ in record { value = z.0; messages_after = z.1 }

pub lost_on-requires : goal.lost_on-requires
lost_on-requires c =
    is_sound _ c.is_sound.ensures (ap not c.if-not-is_sound.false)

pub shape_of-messages : goal.shape_of-messages
shape_of-messages c =
    c.lost_on.auto.messages

pub returns : goal.returns
returns c =
    record { value = c.lost_on.ensures.value; messages_after = c.lost_on.ensures.messages_after }
