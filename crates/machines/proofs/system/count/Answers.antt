-- `machines::system::count` meets its contract, however many words there are.
-- Assumes nothing.
use Rattle.laws.specs.Basics.{refl}
use Rattle.machines.specs.Forms.{Comes}
use Rattle.machines.proofs.Places.{fits_as}
use Rattle.machines.proofs.system.count.Goals as goal

pub returns-in-Err-NotPresent : goal.returns-in-Err-NotPresent
unfolding Comes
returns-in-Err-NotPresent g c = fits_as _ _ c.requires _ (λ source. (_, refl))

pub returns : goal.returns
unfolding Comes
returns g c = fits_as _ _ c.requires _ (λ source. (_, refl))
