-- `machine_simulate::trial` meets its contract.
-- Assumes nothing.
use Rattle.laws.specs.Basics.{◌∙◌, rules}
use Rattle.theory_recording.specs.spacing.Spacing.{simulated}
use Rattle.machine_simulate.specs.Text.{trial_of}
use Rattle.machine_simulate.proofs.trial.Goals as goal

pub returns : goal.returns
unfolding trial_of
returns c =
    let at-simulate = c.simulate in let at-clamped = c.clamped-n in let at-clamped2 = c.clamped-each in let at-clamped3 = c.clamped-steps in let at-clamped4 = c.clamped-seed in at-simulate.ensures.value ∙ (λ j. simulated (at-clamped.ensures j) (at-clamped2.ensures j) (at-clamped3.ensures j) (at-clamped4.ensures j))
