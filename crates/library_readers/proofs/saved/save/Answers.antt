-- `library_readers::saved::save` meets its contract. Assumes nothing.
use Rattle.laws.specs.Basics.{ap, not, refl, rules}
use Rattle.whole_runs.proofs.Unsound.{is_sound, is_unsound}
use Rattle.words.specs.Layout.{run_of}
use Rattle.words.proofs.ViewSound.{sound_words}
use Rattle.library_readers.proofs.saved.Outcomes.{answer_is, save_unsound, save_short, save_done}
use Rattle.library_readers.proofs.saved.save.Goals as goal

pub returns-then-not-sound : goal.returns-then-not-sound
returns-then-not-sound c =
    let z = answer_is (save_unsound c.args.w.now c.args.bytes.now (is_unsound (run_of c.args.w.now) c.is_sound-sound.ensures (ap not c.if-not-sound.true))) c.refused.ensures refl in record { value = z.0; bytes_after = z.1 }

pub returns-then-bytes-lt-SAVED : goal.returns-then-bytes-lt-SAVED
returns-then-bytes-lt-SAVED c =
    let sure = is_sound (run_of c.args.w.now) c.is_sound-sound.ensures (ap not c.if-not-sound.false) in let z = answer_is (save_short c.args.w.now c.args.bytes.now sure c.if-bytes-lt-SAVED.true) c.refused-then-bytes-lt-SAVED.ensures refl in record { value = z.0; bytes_after = z.1 }

pub write_saved-requires : goal.write_saved-requires
write_saved-requires c =
    let sure = is_sound (run_of c.args.w.now) c.is_sound-sound.ensures (ap not c.if-not-sound.false) in ((sound_words c.args.w.now sure).size, c.if-bytes-lt-SAVED.false)

pub returns : goal.returns
returns c =
    let sure = is_sound (run_of c.args.w.now) c.is_sound-sound.ensures (ap not c.if-not-sound.false) in let z = answer_is (save_done c.args.w.now c.args.bytes.now sure c.if-bytes-lt-SAVED.false) c.counted.ensures c.write_saved.ensures in record { value = z.0; bytes_after = z.1 }
