-- `in_place::deliver::has_sent` meets its contract. Assumes nothing.
use Rattle.laws.specs.Basics.{refl, arith, rules}
use Rattle.words.specs.Layout.{mark_in}
use Rattle.in_place.proofs.deliver.has_sent.Goals as goal

pub bounds-w-i : goal.bounds-w-i
unfolding mark_in
bounds-w-i c =
    omega (arith, c.requires.0, c.requires.1)

pub returns : goal.returns
unfolding mark_in
returns c =
    refl
