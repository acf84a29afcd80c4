-- `machines::system::fail` meets its contract.
-- Assumes nothing.
use Rattle.laws.specs.Basics.{refl}
use Rattle.machines.specs.Forms.{Comes}
use Rattle.machines.proofs.Places.{fits_as}
use Rattle.machines.proofs.system.fail.Goals as goal

pub returns : goal.returns
unfolding Comes
returns c = fits_as _ _ c.requires.0 _ (λ source. refl)
