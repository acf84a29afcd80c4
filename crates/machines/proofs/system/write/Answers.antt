-- `machines::system::write` meets its contract, whether the text was written or not.
-- Assumes nothing.
use Rattle.laws.specs.Basics.{ap}
use Rattle.machines.specs.Forms.{from, Comes}
use Rattle.machines.proofs.Places.{fits_as}
use Rattle.machines.proofs.system.write.Goals as goal

pub returns : goal.returns
unfolding Comes
returns c = fits_as _ _ c.requires.0 _ (λ source. (_, ap (from source) c.done_answer.ensures))
