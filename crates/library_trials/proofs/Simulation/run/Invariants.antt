-- `library_trials::Simulation::run` meets its contract. The loop's invariant: the trial after the steps done.
-- Assumes nothing.
use Rattle.std.specs.Prelude.{◌≡◌}
use Rattle.theory_recording.specs.spacing.Spacing.{trial_after}
use Rattle.library_trials.specs.Steps.{trial_of}
use Rattle.library_trials.proofs.Simulation.run.Given as goal

abbrev pub invariant-loop : goal.invariant-loop
invariant-loop l = trial_of l.self ≡ trial_after l.n l.k l.counter l.seed
