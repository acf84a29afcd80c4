-- `library_trials::Simulation::figures` meets its contract.
-- Assumes nothing.
use Rattle.theory_recording.specs.spacing.Spacing.{figures}
use Rattle.library_trials.specs.Steps.{trial_of}
use Rattle.library_trials.proofs.Simulation.figures.Goals as goal

pub returns : goal.returns
unfolding figures trial_of
returns c =
    rw (c.remainder_of.ensures, c.quotient_of.ensures)
