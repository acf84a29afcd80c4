-- `library_readers::end_in` meets its contract. Assumes nothing.
use Rattle.laws.specs.Basics.{arith, rules}
use Rattle.words.proofs.ViewSound.{sound_words}
use Rattle.library_readers.proofs.end_in.Goals as goal

pub bounds-w-12 : goal.bounds-w-12
bounds-w-12 c =
    omega (arith, (sound_words c.args.w.now c.requires).size)
