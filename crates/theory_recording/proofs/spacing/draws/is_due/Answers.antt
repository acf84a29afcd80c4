-- `theory_recording::spacing::draws::is_due` meets its contract.
-- Assumes nothing.
use Rattle.laws.specs.Basics.{refl}
use Rattle.theory_recording.specs.spacing.Spacing.{is_due_of}
use Rattle.theory_recording.proofs.spacing.draws.is_due.Goals as goal

pub returns : goal.returns
unfolding is_due_of
returns c = refl
