-- `words_line::earliest::list::nothing_copied` meets its contract.
-- Assumes nothing.
use Rattle.laws.specs.Basics.{refl}
use Rattle.words_line.specs.earliest.Copying.{nothing_copied_of}
use Rattle.words_line.proofs.earliest.list.nothing_copied.Goals as goal

pub returns : goal.returns
unfolding nothing_copied_of
returns c =
    refl
