-- The checkpoints that a process keeps, as a list: at least one and at most n, exactly those that a pin names, the last one the last stored.
-- Assumes nothing.
use Rattle.std.specs.Prelude.{◌≡◌, ◌-◌, ◌≤◌, ◌<◌}
use Rattle.laws.specs.Basics.{refl, sym, ◌∙◌, Bool, true, false, map, Option, None, Some, ℕ, suc, arith, eqb, length, eqb-true}
use Rattle.laws.specs.{Truth.never_both, Lists.last_of, Tests.count_below, Tests.every, Tests.some_of, Select.last_of_snoc, Elements.any_at}
use Rattle.laws.specs.Counting.{count_any, count_some}
use Rattle.model.specs.declared.Checkpoint.{Checkpoint}
use Rattle.model.specs.{Words.most_processes, Words.names, Words.is_pinned, Sound.ascending}
use Rattle.histories.proofs.{Run.Ideal, Run.keeps, Run.names as namesIn, Invariant.Inv, Line.keeps_below, Line.last_kept}
use Rattle.model.proofs.simulation.View.{passing, pins_of, checkpoint_of, kept_of}
use Rattle.model.proofs.simulation.Passing.{passing_yes, some_passing, length_passing, map_passing}
use Rattle.model.proofs.{simulation.Rows.pinned_is, simulation.SoundPassing.passing_every, simulation.SoundPassing.passing_ascends}

-- A pin names one checkpoint alone.
names_one : (o : Option ℕ) (i j : ℕ) → namesIn o i ≡ true → namesIn o j ≡ true → i ≡ j
names_one None i j d e = never_both false d refl
names_one (Some k) i j d e = sym (eqb-true k i d) ∙ eqb-true k j e

-- No more than n checkpoints are kept: there are n pins, and each names one alone.
pub few_kept : (r : Ideal) (p k : ℕ) → count_below k (keeps r p) ≤ r.n
unfolding keeps
few_kept r p k = count_any r.n k (λ f j. namesIn (r.pin p f) j) (λ f i j. names_one (r.pin p f) i j)

-- The list has as many as checkpoints are kept.
pub kept_length : (r : Ideal) (p : ℕ) → length (kept_of r p) ≡ count_below (r.own p) (keeps r p)
unfolding kept_of
kept_length r p = length_passing (r.own p) (keeps r p) (checkpoint_of r p)

-- At most n are kept.
pub kept_most : (r : Ideal) (p : ℕ) → length (kept_of r p) ≤ r.n
kept_most r p = rw (kept_length r p) (few_kept r p (r.own p))

-- Their indexes ascend.
pub kept_ascends : (r : Ideal) (p : ℕ) → ascending 0 (map (λ c. c.index.0) (kept_of r p)) ≡ true
unfolding kept_of checkpoint_of
kept_ascends r p = rw (map_passing (λ (c : Checkpoint). c.index.0) (r.own p) (keeps r p) (checkpoint_of r p)) (passing_ascends 0 (r.own p) (keeps r p) (λ j lt e. omega arith))

-- Every kept checkpoint passes a test that holds at the kept ones.
pub kept_every : (r : Ideal) (p : ℕ) (u : Checkpoint → Bool) → ((k : ℕ) → k < r.own p → keeps r p k ≡ true → u (checkpoint_of r p k) ≡ true) → every u (kept_of r p) ≡ true
unfolding kept_of
kept_every r p u h = passing_every u (r.own p) (keeps r p) (checkpoint_of r p) h

-- Some pin in the list names checkpoint k exactly if k is kept.
pub pins_name : (r : Ideal) (p k : ℕ) → r.n ≤ most_processes → some_of (λ pin. names pin (record { 0 = k })) (pins_of r p) ≡ keeps r p k
unfolding is_pinned checkpoint_of
pins_name r p k few = pinned_is r p (checkpoint_of r p k) few

module _ (r : Ideal) (v : Inv r) where
  -- The list holds a checkpoint of index k exactly if k is kept.
  pub kept_holds : (p k : ℕ) → some_of (λ c. eqb c.index.0 k) (kept_of r p) ≡ keeps r p k
  unfolding kept_of checkpoint_of
  kept_holds p k =
      some_passing (λ (c : Checkpoint). eqb c.index.0 k) (r.own p) (keeps r p) (checkpoint_of r p)
      ∙ any_at (r.own p) (keeps r p) k (keeps_below r v p k)

  -- At least one is kept, since the own pin names one.
  pub kept_least : (p : ℕ) → p < r.n → 1 ≤ length (kept_of r p)
  kept_least p hp = rw (kept_length r p) (count_some (r.own p) (keeps r p) (r.own p - 1) (omega (arith, v.positive p)) (last_kept r v p (r.own p - 1) hp (omega (arith, v.positive p))))

  -- The last one is the last stored.
  pub kept_last : (p k : ℕ) → p < r.n → suc k ≡ r.own p → last_of (kept_of r p) ≡ Some (checkpoint_of r p k)
  unfolding kept_of
  kept_last p k hp e = rw (← e, passing_yes k (keeps r p) (checkpoint_of r p) (last_kept r v p k hp e)) (last_of_snoc (passing k (keeps r p) (checkpoint_of r p)) (checkpoint_of r p k))
