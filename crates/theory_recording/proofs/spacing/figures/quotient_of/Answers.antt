-- `theory_recording::spacing::figures::quotient_of` meets its contract.
-- Assumes nothing.
use Rattle.theory_recording.specs.spacing.Spacing.{quotient_of}
use Rattle.theory_recording.proofs.spacing.Divided.{by_divisor}
use Rattle.theory_recording.proofs.spacing.figures.quotient_of.Goals as goal

pub returns : goal.returns
unfolding quotient_of
returns c = by_divisor _ _ _ c.checked_div.ensures c.unwrap_or.ensures
