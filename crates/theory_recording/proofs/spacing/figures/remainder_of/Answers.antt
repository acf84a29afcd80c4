-- `theory_recording::spacing::figures::remainder_of` meets its contract.
-- Assumes nothing.
use Rattle.theory_recording.specs.spacing.Spacing.{remainder_of_def}
use Rattle.theory_recording.proofs.spacing.Divided.{by_divisor}
use Rattle.theory_recording.proofs.spacing.figures.remainder_of.Goals as goal

pub returns : goal.returns
unfolding remainder_of_def
returns c = by_divisor _ _ _ c.checked_rem.ensures c.unwrap_or.ensures
