-- `lemidrosy::readings::lemidrosy_kept` meets its contract. Assumes nothing.
use Rattle.laws.specs.Basics.{ap, not, rules}
use Rattle.whole_runs.proofs.Unsound.{is_sound, is_unsound}
use Rattle.lemidrosy.proofs.{Unsound.kept_unsound}
use Rattle.lemidrosy.proofs.readings.lemidrosy_kept.Goals as goal

pub returns-then-not-is_sound : goal.returns-then-not-is_sound
returns-then-not-is_sound c =
    let z = kept_unsound _ (is_unsound _ c.is_sound.ensures (ap not c.if-not-is_sound.true)) _ _ in record { value = z.0; kept_after = z.1 }

pub kept_on-requires : goal.kept_on-requires
kept_on-requires c =
    is_sound _ c.is_sound.ensures (ap not c.if-not-is_sound.false)

pub shape_of-kept : goal.shape_of-kept
shape_of-kept c =
    c.kept_on.auto.kept

pub returns : goal.returns
returns c =
    record { value = c.kept_on.ensures.value; kept_after = c.kept_on.ensures.kept_after }
