-- What holds of a trial under way, and a step as the code takes it.
-- Assumes nothing.
use Prim.{tt}
use Rattle.std.specs.Prelude.{◌≡◌, ◌&&◌, ◌∷◌, ◌+◌, ◌*◌, ◌%◌, ◌≤◌, ◌<◌, Ok, Err}
use Rattle.laws.specs.Basics.{refl, sym, ◌∙◌, ap, Bool, true, false, List, [], Option, None, Some, ℕ, suc, max, arith, eqb, length, get_or, set, replicate, pick}
use native.Mathlib.{Numerals.add-one, Nat.mod-lt}
use Rattle.model.specs.Shapes.{StartAnswer}
use Rattle.model.specs.declared.{Run.Run, Event.Event, Event.TheVariants.Checkpoint, Refusal.TheVariants.TrialOutsideRange}
use Rattle.model.specs.{Words.most_processes, Words.ones, Steps.start_state, Sound.sound, laws.Refusals.refusal_in}
use Rattle.whole_runs.specs.{Outcomes.Outcome, Outcomes.start_outcome, WholeRuns.Traced}
use Rattle.words.specs.Layout.{run_of}
use Rattle.in_place.specs.Starting.{start_outcome_in, StartsTheSame}
use Rattle.in_place.proofs.Judging.{starts_the_same}
use Rattle.theory_recording.specs.{Replay.state_after_events, spacing.Trial.Trial, declared.spacing.TrialResult.TrialResult}
use Rattle.whole_runs.proofs.{WholeRuns.started_state, WholeRuns.reachable_sound, Traced.traced_reachable}
use Rattle.theory_recording.proofs.{Replay.traced_events, spacing.Accepted.ones_start, spacing.Accepted.tried, spacing.Agreement.result_is_lem}
use Rattle.theory_recording.specs.spacing.Spacing.{draw, generated, drawn_process, drawn_number, action, is_due_of, step_events, most_kept_of, stepped, trial_start, trial_after, out_of_range, trial_refusal, figures, no_figures, simulated}
use Rattle.theory_recording.proofs.spacing.Counts.{small_trial, trial_traced, going_count}
use Rattle.library_trials.specs.declared.{Action.Action}
use Rattle.library_trials.specs.Steps.{trial_of, events_in, after, action_of, Underway}
use Rattle.library_trials.proofs.Actions.{run_by_parts, deliveries_by_parts, forced_by_parts, acted_by_parts}

pub record Facts (n k : ℕ) (z : Trial) : Type 0 where
  pub traced : Traced z.run
  pub whole : sound z.run ≡ true
  pub count : (state_after_events z.run (step_events n k z)).count ≡ n
  pub deliveries : z.deliveries ≤ 30000
  pub forced : z.forced ≤ 30000
  pub acted : (p : ℕ) → get_or z.acted p 0 ≤ 30000
  pub few : n ≤ 16
  pub process : (x : ℕ) → x % n < n

sound_traced : (s : Run) → Traced s → sound s ≡ true
sound_traced s v = reachable_sound s (traced_reachable s v)

facts_at : (n k i seed : ℕ) → 1 ≤ n → n ≤ 16 → i < 30000 → Facts n k (trial_after n k i seed)
unfolding trial_after stepped
facts_at n k i seed pos few more =
    let small = small_trial n k i seed in
    let v = trial_traced n k i seed pos few (omega arith) in
    record {
      traced = v;
      whole = sound_traced (trial_after n k i seed).run v;
      count = going_count n (1 + 2 * suc i) (suc i) _ (tried n k (suc i) seed pos few (omega arith)).going;
      deliveries = omega (arith, small.deliveries);
      forced = omega (arith, small.deliveries, small.forced);
      acted = λ p. omega (arith, small.acted p);
      few = few;
      process = λ x. mod-lt x {m = n} pos;
    }

pub facts : (n k : ℕ) (z : Trial) → Underway n k z → Facts n k z
unfolding Underway
facts n k z u = rw u.6 (facts_at n k u.3 u.4 u.0 u.1 u.5)

-- The state between the action of a step and its checkpoint, and the one after it.
pub after_sound : (s : Run) → Traced s → (o : Option Event) → sound (after s o) ≡ true
unfolding after
after_sound s v o = sound_traced _ (traced_events s v (events_in o))

pub events_sound : (s : Run) → Traced s → (l : List Event) → sound (state_after_events s l) ≡ true
events_sound s v l = sound_traced _ (traced_events s v l)

-- A step as the code takes it, from what each of its calls answers: two values drawn, the process and d by them, and its action.
module _ (n k : ℕ) (z : Trial) (first value drawn d : ℕ) (a : Action) where
  pub record Taken : Type 0 where
    pub first_is : first ≡ generated z.value
    pub value_is : value ≡ generated first
    pub drawn_is : drawn ≡ draw first
    pub d_is : d ≡ draw value
    pub action_is : a ≡ action_of z.run (action n z.run (drawn % n) d)

  process_is : Taken → drawn % n ≡ drawn_process n z.value
  unfolding drawn_process
  process_is t = ap (λ (x : ℕ). x % n) (t.drawn_is ∙ ap draw t.first_is)

  number_is : Taken → d ≡ drawn_number z.value
  unfolding drawn_number
  number_is t = t.d_is ∙ ap draw (t.value_is ∙ ap generated t.first_is)

  -- the state that it leaves, from those that its action and then its checkpoint leave
  pub step_run : (due : Bool) (acted rested : Run) → Taken → due ≡ (eqb a.acted 1 && is_due_of k (get_or z.acted (drawn % n) 0)) → acted ≡ after z.run (action n z.run (drawn % n) d)
      → rested ≡ state_after_events acted (pick due (Checkpoint (drawn % n) ∷ []) []) → rested ≡ state_after_events z.run (step_events n k z)
  unfolding step_events
  step_run due acted rested t edue eacted erested =
      let q = drawn_process n z.value in
      erested ∙ ap (λ (r : Run). state_after_events r (pick due (Checkpoint (drawn % n) ∷ []) [])) eacted
      ∙ rw (edue, t.action_is, process_is t, number_is t) (run_by_parts z.run k (get_or z.acted q 0) q (action n z.run q (drawn_number z.value)))

  pub step_is : (run : Run) (kept most : ℕ) → Taken → run ≡ state_after_events z.run (step_events n k z) → kept ≡ most_kept_of n run → most ≡ max z.most kept
      → record {
        run = run;
        value = value;
        acted = set z.acted (drawn % n) (get_or z.acted (drawn % n) 0 + a.acted);
        deliveries = z.deliveries + a.deliveries;
        forced = z.forced + a.forced;
        most = most;
      } ≡ stepped n k z
  unfolding stepped step_events
  step_is run kept most t erun ekept emost =
      let q = drawn_process n z.value in
      let o = action n z.run q (drawn_number z.value) in
      rw (
        emost,
        ekept,
        erun,
        t.value_is,
        t.first_is,
        t.action_is,
        process_is t,
        number_is t,
        acted_by_parts z.run z.acted q o,
        deliveries_by_parts z.run k (get_or z.acted q 0) q o,
        forced_by_parts z.run k (get_or z.acted q 0) q o,
      )

-- The trial before its first step, and one step more.
pub begun_words : (n seed : ℕ) → 1 ≤ n → n ≤ 16 → (w v : List ℕ) → length w ≡ 6464 → run_of v ≡ (start_outcome_in (length w) n ones).run
    → trial_of (record { words = v; value = seed; acted = replicate most_processes 0; deliveries = 0; forced = 0; most = 0 }) ≡ trial_start n seed
unfolding trial_of trial_start StartsTheSame
begun_words n seed pos few w v long here =
    let same : start_outcome_in (length w) n ones ≡ start_outcome n ones = rw long (starts_the_same n ones (omega arith)) in
    let there : run_of v ≡ start_state n ones = here ∙ ap (λ (o : Outcome StartAnswer). o.run) same ∙ started_state n ones (ones_start n pos few) in
    λ j. record { run = there j; value = seed; acted = replicate most_processes 0; deliveries = 0; forced = 0; most = 0 }

pub none_stepped : (n k seed : ℕ) → trial_start n seed ≡ trial_after n k 0 seed
unfolding trial_after
none_stepped n k seed = refl

pub one_stepped : (n k i seed : ℕ) (z next : Trial) → z ≡ trial_after n k i seed → next ≡ stepped n k z → next ≡ trial_after n k (i + 1) seed
unfolding trial_after
one_stepped n k i seed z next e f = f ∙ ap (stepped n k) e ∙ ap (λ (j : ℕ). trial_after n k j seed) (sym (add-one i))

forced_few : (n k i seed : ℕ) → i ≤ 30000 → (trial_after n k i seed).forced ≤ 30000
forced_few n k i seed few = let small = small_trial n k i seed in omega (arith, small.deliveries, small.forced)

-- The answers: a trial is refused for any of three reasons, with one number and figures that are all 0.
abbrev pub refused_result : TrialResult
refused_result = record { answer = Err TrialOutsideRange; figures = no_figures }

module _ (n k steps seed : ℕ) where
  refused_is : trial_refusal n k steps ≡ Some TrialOutsideRange → refused_result ≡ simulated n k steps seed
  unfolding simulated
  refused_is e = rw e

  pub count_outside : true ≡ out_of_range 1 16 n → refused_result ≡ simulated n k steps seed
  unfolding trial_refusal
  count_outside a = refused_is (refusal_in _ (Some TrialOutsideRange) (0, tt, sym a, refl))

  pub spacing_outside : false ≡ out_of_range 1 16 n → true ≡ out_of_range 1 1000 k → refused_result ≡ simulated n k steps seed
  unfolding trial_refusal
  spacing_outside a b = refused_is (refusal_in _ (Some TrialOutsideRange) (1, (sym a, tt), sym b, refl))

  pub steps_outside : false ≡ out_of_range 1 16 n → false ≡ out_of_range 1 1000 k → true ≡ out_of_range 1 30000 steps → refused_result ≡ simulated n k steps seed
  unfolding trial_refusal
  steps_outside a b c = refused_is (refusal_in _ (Some TrialOutsideRange) (2, (sym a, (sym b, tt)), sym c, refl))

  pub all_inside : false ≡ out_of_range 1 16 n → false ≡ out_of_range 1 1000 k → false ≡ out_of_range 1 30000 steps → trial_refusal n k steps ≡ None
  unfolding trial_refusal
  all_inside a b c = refusal_in _ None (sym a, (sym b, (sym c, tt)))

  pub figures_are : (z : Trial) → trial_refusal n k steps ≡ None → z ≡ trial_after n k steps seed → record { answer = Ok tt; figures = figures z } ≡ simulated n k steps seed
  figures_are z e is = rw is (sym (result_is_lem n k steps seed e))

pub small_forced : (n k i seed : ℕ) (z : Trial) → i ≤ 30000 → z ≡ trial_after n k i seed → z.forced ≤ 30000
small_forced n k i seed z few e = rw e (forced_few n k i seed few)
