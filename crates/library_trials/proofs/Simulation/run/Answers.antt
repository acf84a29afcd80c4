-- `library_trials::Simulation::run` meets its contract.
-- Assumes nothing.
use Rattle.std.specs.Prelude.{◌≡◌}
use Rattle.laws.specs.Basics.{◌∙◌, arith}
use Rattle.library_trials.specs.Steps.{trial_of, Underway}
use Rattle.library_trials.proofs.{Trials.none_stepped, Trials.one_stepped}
use Rattle.library_trials.proofs.Simulation.run.Goals as goal

pub loop-init : goal.loop-init
loop-init c =
    let a = c.args in c.begin.ensures ∙ none_stepped a.n a.k a.seed

pub step-requires : goal.step-requires
unfolding Underway
step-requires c =
    let l = c.loop in (c.requires.0, c.requires.1, c.requires.2, l.counter, c.args.seed, omega (arith, c.loop-test.true, c.requires.3), l.invariant)

pub loop-preserved : goal.loop-preserved
loop-preserved c =
    let l = c.loop in let a = c.args in one_stepped a.n a.k l.counter a.seed (trial_of l.self) _ l.invariant c.step.ensures

pub returns : goal.returns
returns c =
    let l = c.loop in let e : l.counter ≡ c.args.steps = omega (arith, c.loop-test.false, l.auto.counter-end) in
    rw e at l.invariant
