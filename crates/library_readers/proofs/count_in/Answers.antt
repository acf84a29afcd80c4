-- `library_readers::count_in` meets its contract. Assumes nothing.
use Rattle.laws.specs.Basics.{arith, rules}
use Rattle.words.proofs.ViewSound.{sound_words}
use Rattle.library_readers.proofs.count_in.Goals as goal

pub bounds-w-0 : goal.bounds-w-0
bounds-w-0 c =
    omega (arith, (sound_words c.args.w.now c.requires).size)
