-- `in_place::start::is_block_count` meets its contract. Assumes nothing.
use Rattle.laws.specs.Basics.{refl}
use Rattle.model.specs.Sound.{is_block_count_of}
use Rattle.in_place.proofs.start.is_block_count.Goals as goal

pub returns : goal.returns
unfolding is_block_count_of
returns c =
    refl
