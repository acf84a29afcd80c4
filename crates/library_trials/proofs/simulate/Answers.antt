-- `library_trials::simulate` meets its contract, by the three ranges.
-- Assumes nothing.
use Rattle.std.specs.Prelude.{◌≡◌}
use Rattle.theory_recording.specs.spacing.Spacing.{no_figures, simulated, TrialsAgree}
use Rattle.theory_recording.proofs.spacing.Agreement.{trials_agree, trial_out}
use Rattle.library_trials.specs.Steps.{trial_of}
use Rattle.library_trials.proofs.Trials.{refused_result, count_outside, spacing_outside, steps_outside, all_inside, figures_are, small_forced}
use Rattle.library_trials.proofs.simulate.Goals as goal
use Rattle.library_trials.proofs.simulate.Goals.{then-is_outside-via-then-is_outside, then-is_outside-via-else-is_outside+then-is_outside-2, then-is_outside-via-else-is_outside+else-is_outside-2+then-is_outside-3}

pub returns-then-is_outside : goal.returns-then-is_outside
unfolding no_figures TrialsAgree
returns-then-is_outside c =
    let a = c.args in
    let outside : refused_result ≡ simulated a.n a.spacing a.steps a.seed = elim c.then-is_outside.branch [
      | then-is_outside-via-then-is_outside w ↦ count_outside a.n a.spacing a.steps a.seed w.if-is_outside.ensures
      | then-is_outside-via-else-is_outside+then-is_outside-2 w ↦ spacing_outside a.n a.spacing a.steps a.seed w.if-is_outside.ensures w.if-is_outside-2.ensures
      | then-is_outside-via-else-is_outside+else-is_outside-2+then-is_outside-3 w ↦ steps_outside a.n a.spacing a.steps a.seed w.if-is_outside.ensures w.if-is_outside-2.ensures w.if-is_outside-3.ensures
    ] in
    record { value = outside; agrees_with_replay = trials_agree a.n a.spacing a.steps a.seed }

pub run-requires : goal.run-requires
run-requires c =
    let a = c.args in
    let inside = all_inside a.n a.spacing a.steps a.seed c.if-is_outside.ensures c.if-is_outside-2.ensures c.if-is_outside-3.ensures in
    let range = trial_out a.n a.spacing a.steps inside in
    (range.some_process, range.few_processes, range.some_spacing, range.few_steps)

pub figures-requires : goal.figures-requires
unfolding trial_of
figures-requires c =
    let a = c.args in
    let inside = all_inside a.n a.spacing a.steps a.seed c.if-is_outside.ensures c.if-is_outside-2.ensures c.if-is_outside-3.ensures in
    small_forced a.n a.spacing a.steps a.seed _ (trial_out a.n a.spacing a.steps inside).few_steps c.run.ensures

pub returns : goal.returns
unfolding TrialsAgree
returns c =
    let a = c.args in
    let inside = all_inside a.n a.spacing a.steps a.seed c.if-is_outside.ensures c.if-is_outside-2.ensures c.if-is_outside-3.ensures in
    record { value = rw c.figures.ensures (figures_are a.n a.spacing a.steps a.seed _ inside c.run.ensures); agrees_with_replay = trials_agree a.n a.spacing a.steps a.seed }
