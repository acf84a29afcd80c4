-- Note 10: a trial "agrees with replaying the same events".
-- Assumes nothing.
use Prim.{tt}
use Rattle.std.specs.Prelude.{◌≡◌, ◌*◌, ◌/◌, ◌%◌, ◌≤◌, ◌<◌, Ok}
use Rattle.laws.specs.Basics.{refl, sym, ◌∙◌, ap, false, None, ℕ, zero, suc, max, arith, eqb, leb, length, eq-eqb, ne_eqb, leb-true, not-false, pick}
use Rattle.std.proofs.Common.{mod-lt, div-add-mod'}
use Rattle.laws.specs.Truth.{and_left, and_right}
use Rattle.model.specs.{Words.most_processes, Words.ones, Steps.start_state, laws.Refusals.no_rule}
use Rattle.whole_runs.specs.Listing.{state_after_records}
use Rattle.theory_recording.proofs.{Replay.replays, Replay.lines_replayed, Replay.listing_started, spacing.Accepted.ones_start, spacing.Accepted.tried}
use Rattle.theory_recording.specs.declared.spacing.TrialResult.{TrialResult}
use Rattle.theory_recording.specs.spacing.Spacing.{deliveries_in, forced_in, greatest_below, most_kept_of, stepped, trial_start, trial_after, out_of_range, trial_refusal, quotient_of, remainder_of_def, figures, simulated, events_of, trace_of, replayed, Divides, AgreesWithReplay, TrialsAgree}

-- The most kept after any step.
pub greatest_same : (n : ℕ) (f g : ℕ → ℕ) → ((i : ℕ) → i < n → f i ≡ g i) → greatest_below n f ≡ greatest_below n g
unfolding greatest_below
greatest_same zero f g h = refl
greatest_same (suc n) f g h = rw (greatest_same n f g (λ i lt. h i (omega arith)), h n (omega arith))

most_so_far : (n k i seed : ℕ) → (trial_after n k i seed).most ≡ greatest_below i (λ j. most_kept_of n (trial_after n k (suc j) seed).run)
unfolding trial_after trial_start stepped greatest_below
most_so_far n k zero seed = refl
most_so_far n k (suc i) seed = ap (λ (x : ℕ). max x (most_kept_of n (trial_after n k (suc i) seed).run)) (most_so_far n k i seed)

-- The parameters of a trial that is not refused.
pub in_range : (low high x : ℕ) → out_of_range low high x ≡ false → (low ≤ x) × (x ≤ high)
unfolding out_of_range
in_range low high x e =
    let h = not-false _ e in
    (leb-true low x (and_left (leb low x) (leb x high) h), leb-true x high (and_right (leb low x) (leb x high) h))

pub record InRange (n k steps : ℕ) : Type 0 where
  pub some_process : 1 ≤ n
  pub few_processes : n ≤ 16
  pub some_spacing : 1 ≤ k
  pub small_spacing : k ≤ 1000
  pub some_step : 1 ≤ steps
  pub few_steps : steps ≤ 30000

pub trial_out : (n k steps : ℕ) → trial_refusal n k steps ≡ None → InRange n k steps
unfolding trial_refusal
trial_out n k steps e =
    let x = in_range 1 most_processes n (no_rule _ e 0) in
    let y = in_range 1 1000 k (no_rule _ e 1) in
    let z = in_range 1 30000 steps (no_rule _ e 2) in
    record { some_process = x.0; few_processes = x.1; some_spacing = y.0; small_spacing = y.1; some_step = z.0; few_steps = z.1 }

-- The division.
divides : (x y : ℕ) → Divides x y (pick (eqb y 0) 0 (x / y)) (pick (eqb y 0) 0 (x % y))
divides x y = record {
  none_without = λ e. rw (eq-eqb y 0 e) (refl, refl);
  divided = λ h. rw (ne_eqb y 0 (λ c. omega arith)) (sym (div-add-mod' x y), mod-lt x {m = y} h);
}

-- The result of a trial that is not refused.
pub result_is_lem : (n k steps seed : ℕ) → trial_refusal n k steps ≡ None → simulated n k steps seed ≡ record { answer = Ok tt; figures = figures (trial_after n k steps seed) }
unfolding simulated
result_is_lem n k steps seed e = rw e

-- What the result of a trial says, by the trial and its events.
agrees : (n k steps seed : ℕ) → trial_refusal n k steps ≡ None → AgreesWithReplay n k steps seed
unfolding figures quotient_of remainder_of_def trace_of replayed
agrees n k steps seed e =
    let range = trial_out n k steps e in
    let w = tried n k steps seed range.some_process range.few_processes range.few_steps in
    let s₀ = start_state n ones in
    let v = replays s₀ (events_of n k steps seed) w.accepts in
    let z = trial_after n k steps seed in
    let is = ap (λ (x : TrialResult). x.figures) (result_is_lem n k steps seed e) in
    let after-step : (i : ℕ) → i < steps → most_kept_of n (trial_after n k (suc i) seed).run ≡ most_kept_of n (state_after_records (start_state n ones) (trace_of n k (suc i) seed)) = λ i lt.
    let u = tried n k (suc i) seed range.some_process range.few_processes (omega (arith, range.few_steps)) in
    ap (most_kept_of n) (sym ((replays s₀ (events_of n k (suc i) seed) u.accepts).state ∙ u.run)) in
    record {
      fitting = v.fitting;
      one_each = v.one_each;
      accepted = v.accepted;
      state = v.state ∙ w.run;
      deliveries = ap (λ x. x.deliveries) is ∙ w.deliveries ∙ ap deliveries_in (sym v.same);
      forced = ap (λ x. x.forced) is ∙ w.forced ∙ ap forced_in (sym v.same);
      most = ap (λ x. x.most) is ∙ most_so_far n k steps seed ∙ greatest_same steps _ _ after-step;
      share = rw is (divides (1000 * z.forced) z.deliveries);
      printed = λ all.
          listing_started all n (trace_of n k steps seed) (ones_start n range.some_process range.few_processes)
          ∙ lines_replayed all (length (events_of n k steps seed)) 0 s₀ (trace_of n k steps seed) v.size (omega (arith, w.short, range.few_steps)) v.accepted;
    }

pub trials_agree : TrialsAgree
unfolding TrialsAgree
trials_agree n k steps seed e = agrees n k steps seed e
