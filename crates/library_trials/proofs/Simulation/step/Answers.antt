-- `library_trials::Simulation::step` meets its contract.
-- Assumes nothing.
use Rattle.std.specs.Prelude.{◌≡◌, ◌%◌, ◌≤◌, ◌<◌}
use Rattle.laws.specs.Basics.{sym, ◌∙◌, ap, ℕ, arith, rules}
use Rattle.model.specs.{declared.Run.Run, Sound.sound}
use Rattle.theory_recording.specs.{Replay.state_after_events, spacing.Trial.Trial, spacing.Spacing.step_events}
use Rattle.words.specs.Layout.{run_of}
use Rattle.words.proofs.{View.count_is_lem, ViewSound.sound_fits}
use Rattle.library_trials.specs.{declared.Simulation.Simulation, Steps.trial_of, Steps.Underway}
use Rattle.library_trials.proofs.Actions.{small_action}
use Rattle.library_trials.proofs.Trials.{Facts, facts, Taken, after_sound, events_sound, step_run, step_is}
use Rattle.library_trials.proofs.Simulation.step.Goals as goal

below : (n k x : ℕ) (z : Trial) → Underway n k z → x % n < 16
below n k x z u = let known = facts n k z u in omega (arith, known.process x, known.few)

pub nonzero_rem-p : goal.nonzero_rem-p
unfolding Underway
nonzero_rem-p c =
    c.requires.0

pub act-action-requires : goal.act-action-requires
unfolding trial_of
act-action-requires c =
    let known = facts c.args.n c.args.k (trial_of c.args.self.now) c.requires in
    (known.whole, known.few, known.process c.draw_of.result)

pub bounds-self-p : goal.bounds-self-p
bounds-self-p c =
    below c.args.n c.args.k c.draw_of.result (trial_of c.args.self.now) c.requires

pub is_due-requires : goal.is_due-requires
unfolding trial_of
is_due-requires c =
    let some_spacing : 1 ≤ c.args.k = unfold Underway in c.requires.2 in
    let known : Facts c.args.n c.args.k (trial_of c.args.self.now) = facts c.args.n c.args.k (trial_of c.args.self.now) c.requires in
    (some_spacing, known.acted (c.draw_of.result % c.args.n))

-- The state after the action is sound.
pub rest-requires : goal.rest-requires
unfolding trial_of
rest-requires c =
    let known : Facts c.args.n c.args.k (trial_of c.args.self.now) = facts c.args.n c.args.k (trial_of c.args.self.now) c.requires in
    ap sound c.act-action.ensures.w_after ∙ after_sound (run_of c.args.self.now.words) known.traced _

pub bounds-self-p-2 : goal.bounds-self-p-2
bounds-self-p-2 c =
    below c.args.n c.args.k c.draw_of.result (trial_of c.args.self.now) c.requires

pub overflow_add-self : goal.overflow_add-self
unfolding trial_of
overflow_add-self c =
    let small = small_action (run_of c.args.self.now.words) _ c.act-action.result c.act-action.ensures.value in
    let known = facts c.args.n c.args.k (trial_of c.args.self.now) c.requires in
    let one = small.0 in
    let few = known.acted (c.draw_of.result % c.args.n) in
    search rules

pub bounds-self-p-3 : goal.bounds-self-p-3
bounds-self-p-3 c =
    below c.args.n c.args.k c.draw_of.result (trial_of c.args.self.now) c.requires

pub overflow_add-self-2 : goal.overflow_add-self-2
unfolding trial_of
overflow_add-self-2 c =
    let small = small_action (run_of c.args.self.now.words) _ c.act-action.result c.act-action.ensures.value in
    let known = facts c.args.n c.args.k (trial_of c.args.self.now) c.requires in
    let one = small.1 in
    let few = known.deliveries in
    search rules

pub overflow_add-self-3 : goal.overflow_add-self-3
unfolding trial_of
overflow_add-self-3 c =
    let small = small_action (run_of c.args.self.now.words) _ c.act-action.result c.act-action.ensures.value in
    let known = facts c.args.n c.args.k (trial_of c.args.self.now) c.requires in
    let one = small.2 in
    let few = known.forced in
    search rules

pub most_kept-requires : goal.most_kept-requires
unfolding trial_of
most_kept-requires c =
    let z = trial_of c.args.self.now in
    let known : Facts c.args.n c.args.k z = facts c.args.n c.args.k z c.requires in
    let taken : Taken c.args.n c.args.k z c.next-first.result c.next-self.result c.draw_of.result c.draw_of-d.result c.act-action.result = record { first_is = c.next-first.ensures; value_is = c.next-self.ensures; drawn_is = c.draw_of.ensures; d_is = c.draw_of-d.ensures; action_is = c.act-action.ensures.value } in
    let left : run_of c.rest.new.w ≡ state_after_events z.run (step_events c.args.n c.args.k z) = step_run c.args.n c.args.k z _ _ _ _ _ c.is_due.result _ _ taken c.is_due.ensures c.act-action.ensures.w_after c.rest.ensures in
    let whole = ap sound left ∙ events_sound z.run known.traced (step_events c.args.n c.args.k z) in
    (whole, sym (sym (count_is_lem c.rest.new.w (sound_fits c.rest.new.w whole)) ∙ ap (λ (x : Run). x.count) left ∙ known.count))

pub returns : goal.returns
unfolding trial_of
returns c =
    let z = trial_of c.args.self.now in
    let taken : Taken c.args.n c.args.k z c.next-first.result c.next-self.result c.draw_of.result c.draw_of-d.result c.act-action.result = record { first_is = c.next-first.ensures; value_is = c.next-self.ensures; drawn_is = c.draw_of.ensures; d_is = c.draw_of-d.ensures; action_is = c.act-action.ensures.value } in
    let left : run_of c.rest.new.w ≡ state_after_events z.run (step_events c.args.n c.args.k z) = step_run c.args.n c.args.k z _ _ _ _ _ c.is_due.result _ _ taken c.is_due.ensures c.act-action.ensures.w_after c.rest.ensures in
    step_is c.args.n c.args.k z _ _ _ _ _ _ c.most_kept.result c.max-self.result taken left c.most_kept.ensures c.max-self.ensures
