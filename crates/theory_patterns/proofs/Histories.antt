-- Every surviving history of the product is trackable, and its states' vectors say exactly which checkpoints come causally before them.
-- Assumes nothing.
use Rattle.std.specs.Prelude.{◌≡◌, ◌∷◌, ◌++◌, ◌⊎◌, ◌≤◌, ◌<◌}
use Rattle.laws.specs.Basics.{sym, ◌∙◌, ap, Bool, true, false, List, [], inl, inr, ℕ, zero, suc, arith, lt-ltb, ltb-true, pick}
use mathlib.Core.List.Memᴰ
use mathlib.Core.List.{Memᴰ}
use Rattle.model.specs.declared.{Checkpoint.Checkpoint, Interval.Interval, Run.Run}
use Rattle.model.specs.Words.{most_processes, entry, comes_before, process}
use Rattle.histories.specs.History.{Lists, checkpoints}
use Rattle.whole_runs.specs.{Outcomes.start_outcome, Calls.state_after, Calls.transcript, Survival.Surviving, Survival.surviving}
use Rattle.histories.proofs.{Invariant.Inv, Run.Ideal, Run.begun, Run.keeps, Sources.Sources}
use Rattle.model.proofs.simulation.View.{passing, checkpoint_of, kept_of, process_of, state_of}
use Rattle.model.proofs.simulation.Reads.{entry_is, process_is}
use Rattle.whole_runs.proofs.{whole.Reached.Reached, whole.Runs.run_after, WholeRuns.reachable_reached}
use Rattle.theory_patterns.specs.Paths.{Before, Trackable}
use Rattle.theory_patterns.specs.Histories.{AllUseful, Exact, EntriesAreRight, HistoriesAreTrackable}
use Rattle.theory_patterns.proofs.Surviving.{run_trackable, entry_before, before_entry}

-- An element of two lists joined is one of the first or of the second.
joined : {A : Type 0} {x : A} (l k : List A) → Memᴰ x (l ++ k) → Memᴰ x l ⊎ Memᴰ x k
joined [] k m = inr m
joined (y ∷ l) k m = elim (Memᴰ.cases_cons m) [
  | inl e ↦ inl (Memᴰ.head e)
  | inr t ↦ elim (joined l k t) [ inl a ↦ inl (Memᴰ.tail a) | inr b ↦ inr b ]
]

-- An element of the values that pass is the value at a number below the bound.
passed : {A : Type 0} {x : A} (k : ℕ) (t : ℕ → Bool) (f : ℕ → A) → Memᴰ x (passing k t f) → (j : ℕ) × (j < k) × (x ≡ f j)
unfolding passing
passed zero t f m = absurd (Memᴰ.not-nil m)
passed {x = x} (suc k) t f m = elim (joined (passing k t f) (pick (t k) (f k ∷ []) []) m) [
  | inl a ↦ (let w = passed k t f a in (w.0, omega (arith, w.1), w.2))
  | inr b ↦ (k, omega arith, last (t k) b)
]
  where
    last : (b : Bool) → Memᴰ x (pick b (f k ∷ []) []) → x ≡ f k
    last true m = elim (Memᴰ.cases_cons m) [ inl e ↦ e | inr n ↦ absurd (Memᴰ.not-nil n) ]
    last false m = absurd (Memᴰ.not-nil m)

-- A kept checkpoint in the state is a state of the run.
module _ (r : Ideal) (v : Inv r) (few : r.n ≤ most_processes) where
  live_entry_lem : (p f : ℕ) → p < r.n → f < r.n → entry (process (state_of r) p).vector f ≡ record { 0 = r.vector p (r.own p) f }
  unfolding process_of
  live_entry_lem p f hp hf = rw (process_is r p few hp) (entry_is r.n (r.vector p (r.own p)) f few hf)

  kept_entry : (p f : ℕ) (c : Checkpoint) → p < r.n → f < r.n → Memᴰ c (process (state_of r) p).kept → (c.index.0 < r.own p) × (entry c.vector f ≡ record { 0 = r.vector p c.index.0 f })
  unfolding process_of kept_of checkpoint_of
  kept_entry p f c hp hf m =
      let w = passed (r.own p) (keeps r p) (checkpoint_of r p) (rw (process_is r p few hp) at m) in
      rw w.2 (w.1, entry_is r.n (r.vector p w.0) f few hf)

-- Of a state and a history that stand for one run.
module _ (r : Ideal) (v : Inv r) (few : r.n ≤ most_processes) (w : Sources r) (h : Surviving) (same : h.lists ≡ r.events) where
  own_is : (p : ℕ) → checkpoints (h.lists p) ≡ r.own p
  own_is p = ap (λ (l : Lists). checkpoints (l p)) same ∙ sym (v.counted p)

  exact : (f a p k : ℕ) → f < r.n → a < checkpoints (h.lists f) → p < r.n → k ≤ checkpoints (h.lists p) → Exact h.lists f a p k (r.vector p k f)
  exact = rw same (λ f a p k hf near hp far.
      let near-own : a < r.own f = omega (arith, near, v.counted f) in
      let far-own : k ≤ r.own p = omega (arith, far, v.counted p) in
      (λ o. before_entry r v w f a p k hf near-own far-own o, λ lt. entry_before r v w f a p k hf near-own far-own lt))

  entries_right : EntriesAreRight r.n (state_of r) h
  entries_right = record {
    vector = r.vector;
    exact = exact;
    present = λ f p k hf hp far. omega (arith, v.present p k f hf (omega (arith, far, own_is p)), own_is f);
    live = λ p f hp hf. rw (own_is p) (live_entry_lem r v few p f hp hf);
    kept = λ p f c hp hf m. rw (own_is p) (kept_entry r v few p f c hp hf m);
  }

  history_trackable : Trackable r.n h.lists
  history_trackable = rw same (run_trackable r v w)

  -- No state comes before itself: its own entry is its index.
  all_useful : AllUseful r.n h.lists
  unfolding Trackable AllUseful
  all_useful a α ha near z =
      let o = (exact a α a α ha near ha (omega arith)).0 (history_trackable a α a α ha near ha (omega arith) z) in
      omega (arith, o, v.self a α (omega (arith, near, own_is a)))

reached_trackable : (n : ℕ) (s : Run) (h : Surviving) (r : Ideal) → Reached n s h r → Trackable n h.lists × AllUseful n h.lists × EntriesAreRight n s h
reached_trackable n s h r v =
    let few = v.limits.few_processes in
    let same = v.agrees.lists in
    let from = v.memory.sources in
    rw (← v.size, v.state) (history_trackable r v.inv few from h same, all_useful r v.inv few from h same, entries_right r v.inv few from h same)

pub histories_are_trackable : HistoriesAreTrackable
unfolding HistoriesAreTrackable surviving
histories_are_trackable n block_counts ok calls =
    reached_trackable n (state_after (start_outcome n block_counts).run calls) (surviving n block_counts (transcript (start_outcome n block_counts).run calls)) (run_after (begun n block_counts) calls)
    (reachable_reached n block_counts ok calls)

-- Document 01's `comes_before`, on the vectors that a state of the run holds, is causal precedence in the surviving history.
module _ (n : ℕ) (s : Run) (h : Surviving) (v : EntriesAreRight n s h) (f a p : ℕ) (hf : f < n) (near : a < checkpoints (h.lists f)) (hp : p < n) where
  by_vector : (k : ℕ) (entries : List Interval) → k ≤ checkpoints (h.lists p) → entry entries f ≡ record { 0 = v.vector p k f }
      → (Before h.lists f a p k → comes_before (record { 0 = a }) f entries ≡ true) × (comes_before (record { 0 = a }) f entries ≡ true → Before h.lists f a p k)
  by_vector k entries far e =
      let x = v.exact f a p k hf near hp far in
      (λ o. rw e (lt-ltb a (v.vector p k f) (x.0 o)), rw e (λ b. x.1 (ltb-true a (v.vector p k f) b)))

  pub before_live : (Before h.lists f a p (checkpoints (h.lists p)) → comes_before (record { 0 = a }) f (process s p).vector ≡ true)
      × (comes_before (record { 0 = a }) f (process s p).vector ≡ true → Before h.lists f a p (checkpoints (h.lists p)))
  before_live = by_vector (checkpoints (h.lists p)) (process s p).vector (omega arith) (v.live p f hp hf)

  pub before_kept : (c : Checkpoint) → Memᴰ c (process s p).kept → (Before h.lists f a p c.index.0 → comes_before (record { 0 = a }) f c.vector ≡ true)
      × (comes_before (record { 0 = a }) f c.vector ≡ true → Before h.lists f a p c.index.0)
  before_kept c m = let w = v.kept p f c hp hf m in by_vector c.index.0 c.vector (omega (arith, w.0)) w.1
