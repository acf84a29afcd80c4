-- `words::messages::put_last` meets its contract. Assumes nothing.
use Rattle.std.specs.Prelude.{◌≡◌}
use Rattle.laws.specs.Basics.{refl, ◌∙◌, arith, length-set, rules}
use Rattle.words.proofs.{Reading.set_is_put}
use Rattle.words.specs.messages.Places.{put_last_of}
use Rattle.words.proofs.messages.put_last.Goals as goal

pub bounds-w-12-2 : goal.bounds-w-12-2
unfolding put_last_of
bounds-w-12-2 c =
    simp length-set (omega (arith, c.put.auto.w, c.requires.0))

pub shape_of-w : goal.shape_of-w
unfolding put_last_of
shape_of-w c =
    simp length-set c.put.auto.w

pub returns : goal.returns
unfolding put_last_of
returns c =
    simp set_is_put (rw c.put.ensures refl)
