-- For the code: the states of a trial are reached by calls, and the counts of a trial stay small.
-- Assumes nothing.
use Rattle.std.specs.Prelude.{◌≡◌, ◌∷◌, ◌+◌, ◌≤◌}
use Rattle.laws.specs.Basics.{◌∙◌, ap, List, [], Option, None, Some, ℕ, zero, suc, arith, ltb, length, get_or, set, replicate, length-set, length-replicate, get_or-replicate, get_or-set_same, get_or-set_other, ltb-true, ltb-false, by_bool, by_eq}
use lib.ListN.{get_or-eq_default}
use Rattle.laws.specs.Lists.{select}
use Rattle.model.specs.declared.{Run.Run, Event.Event}
use Rattle.model.specs.{Words.most_processes, Words.ones, Steps.start_state}
use Rattle.whole_runs.specs.WholeRuns.{Traced}
use Rattle.theory_recording.specs.{Replay.EventReply, Replay.performed, spacing.Trial.Trial}
use Rattle.model.proofs.simulation.Reads.{count_is_lem}
use Rattle.whole_runs.proofs.{WholeRuns.started_state, Traced.traced_start}
use Rattle.theory_recording.proofs.{Replay.traced_events, spacing.Accepted.Going, spacing.Accepted.ones_start, spacing.Accepted.tried}
use Rattle.theory_recording.specs.spacing.Spacing.{drawn_process, drawn_number, action, is_due_of, with_checkpoint, step_events, is_delivery, has_value, deliveries_in, forced_in, counted, stepped, trial_start, trial_after, events_of}

one_delivery : (s : Run) (k acted p : ℕ) (o : Option Event) → deliveries_in (performed s (with_checkpoint k acted p o)) ≤ 1
unfolding with_checkpoint performed deliveries_in is_delivery select
one_delivery s k acted p None = omega arith
one_delivery s k acted p (Some e) = by_bool (is_due_of k acted)
    (λ t. by_bool (is_delivery e) (λ d. rw (t, d) (omega arith)) (λ d. rw (t, d) (omega arith)))
    (λ t. by_bool (is_delivery e) (λ d. rw (t, d) (omega arith)) (λ d. rw (t, d) (omega arith)))

forced_fewer : (l : List EventReply) → forced_in l ≤ deliveries_in l
unfolding forced_in deliveries_in select
forced_fewer [] = omega arith
forced_fewer (x ∷ l) = by_bool (is_delivery x.event)
    (λ d. by_bool (has_value x.reply.report.value) (λ h. rw (d, h) (omega (arith, forced_fewer l))) (λ h. rw (d, h) (omega (arith, forced_fewer l))))
    (λ d. rw d (omega (arith, forced_fewer l)))

counted_small : (i : ℕ) (acted : List ℕ) (p : ℕ) (o : Option Event) → ((q : ℕ) → get_or acted q 0 ≤ i) → (q : ℕ) → get_or (counted acted p o) q 0 ≤ suc i
unfolding counted
counted_small i acted p None h q = omega (arith, h q)
counted_small i acted p (Some e) h q = by_bool (ltb q (length acted))
    (λ lt. by_eq q p
    (λ c. rw c (omega (arith, h p, get_or-set_same acted p (get_or acted p 0 + 1) 0 (ltb-true p (length acted) (rw c at lt)))))
    (λ ne. omega (arith, h q, get_or-set_other acted p q (get_or acted p 0 + 1) 0 ne)))
    (λ ge. omega (arith, get_or-eq_default (set acted p (get_or acted p 0 + 1)) 0 {n = q} (omega (arith, ltb-false q (length acted) ge, length-set acted p (get_or acted p 0 + 1)))))

pub record SmallTrial (i : ℕ) (z : Trial) : Type 0 where
  pub deliveries : z.deliveries ≤ i
  pub forced : z.forced ≤ z.deliveries
  pub acted : (p : ℕ) → get_or z.acted p 0 ≤ i

small_start : (n seed : ℕ) → SmallTrial 0 (trial_start n seed)
unfolding trial_start
small_start n seed = record { deliveries = omega arith; forced = omega arith; acted = λ p. zeros p }
  where
    zeros : (p : ℕ) → get_or (replicate {A = ℕ} most_processes 0) p 0 ≤ 0
    zeros p = by_bool (ltb p most_processes)
        (λ lt. omega (arith, get_or-replicate {A = ℕ} most_processes p 0 0 (ltb-true p most_processes lt)))
        (λ ge. omega (arith, get_or-eq_default (replicate {A = ℕ} most_processes 0) 0 {n = p} (rw (length-replicate {A = ℕ} most_processes 0) (ltb-false p most_processes ge))))

small_step : (n k i : ℕ) (z : Trial) → SmallTrial i z → SmallTrial (suc i) (stepped n k z)
unfolding stepped step_events
small_step n k i z w =
    let p = drawn_process n z.value in
    let o = action n z.run p (drawn_number z.value) in
    record {
      deliveries = omega (arith, w.deliveries, one_delivery z.run k (get_or z.acted p 0) p o);
      forced = omega (arith, w.forced, forced_fewer (performed z.run (with_checkpoint k (get_or z.acted p 0) p o)));
      acted = counted_small i z.acted p o w.acted;
    }

pub small_trial : (n k i seed : ℕ) → SmallTrial i (trial_after n k i seed)
unfolding trial_after
small_trial n k zero seed = small_start n seed
small_trial n k (suc i) seed = small_step n k i (trial_after n k i seed) (small_trial n k i seed)

-- The states of a trial.
pub trial_traced : (n k i seed : ℕ) → 1 ≤ n → n ≤ 16 → i ≤ 30000 → Traced (trial_after n k i seed).run
trial_traced n k i seed pos few most =
    let ok = ones_start n pos few in
    let start : Traced (start_state n ones) = rw (started_state n ones ok) at (traced_start n ok) in
    rw (← (tried n k i seed pos few most).run) (traced_events (start_state n ones) start (events_of n k i seed))

module _ (n b m : ℕ) (s : Run) (g : Going n b m s) where
  pub going_count : s.count ≡ n
  going_count = ap (λ (t : Run). t.count) g.reached.state ∙ count_is_lem g.ideal ∙ g.reached.size
