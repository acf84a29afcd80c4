-- `words::rows::vector::rises` meets its contract. Assumes nothing.
use Rattle.laws.specs.Basics.{refl}
use Rattle.words.proofs.rows.vector.rises.Goals as goal

pub returns : goal.returns
returns c =
    refl
