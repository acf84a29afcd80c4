-- `theory_recording::spacing::draws::draw_of` meets its contract.
-- Assumes nothing.
use Rattle.laws.specs.Basics.{refl}
use Rattle.theory_recording.specs.spacing.Spacing.{draw}
use Rattle.theory_recording.proofs.spacing.draws.draw_of.Goals as goal

pub returns : goal.returns
unfolding draw
returns c = refl
