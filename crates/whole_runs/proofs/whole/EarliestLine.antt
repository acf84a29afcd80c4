-- Note 8 on the state that stands for a run: what an accepted call for named checkpoints says of the run, and the line that it writes.
-- Assumes nothing.
use Rattle.std.specs.Prelude.{◌≡◌, ◌&&◌, ◌||◌, ◌∷◌, ◌≤◌, ◌<◌}
use Rattle.laws.specs.Basics.{refl, sym, ◌∙◌, ap, Bool, true, false, List, [], Option, None, Some, inl, inr, ℕ, arith, eqb, ltb, leb, length, eq-eqb, ne_eqb, eqb-false, ltb-false, leb-true, leb-false, not-false, by_bool}
use mathlib.Core.List.Memᴰ
use mathlib.Core.List.{Memᴰ}
use Rattle.std.specs.Option.{option_map}
use Rattle.laws.specs.{Lists.select, Lists.or_else, Lists.last_of, Members.none_of, Search.latest_is, Tests.some_of, Truth.and_both, Truth.and_no_right}
use Rattle.model.specs.{declared.Checkpoint.Checkpoint, declared.Named.Named, declared.Run.Run, laws.Refusals.no_rule}
use Rattle.model.specs.Words.{most_processes, entry, comes_before, no_checkpoint, Process, process, keeps_in}
use Rattle.whole_runs.specs.Earliest.{is_named, named_vector, greatest, some_absent, repeats, unfit, not_kept, some_ordered, earliest_refusal}
use Rattle.histories.proofs.{Run.Ideal, Run.keeps, Invariant.Inv, Line.keeps_below, Earliest.Topped}
use Rattle.model.proofs.simulation.View.{vector_of, checkpoint_of, kept_of, process_of, state_of}
use Rattle.model.proofs.{simulation.Passing.select_passing, simulation.Passing.last_passing, simulation.Kept.kept_holds}
use Rattle.model.proofs.simulation.Reads.{entry_is, count_is_lem, process_is}

-- The greatest entry: none is above it, and it is one of them.
greatest_above : (s : Run) (l : List Named) (c : Named) (p : ℕ) → Memᴰ c l → (entry (named_vector s c) p).0 ≤ greatest s l p
unfolding greatest
greatest_above s [] c p m = absurd (Memᴰ.not-nil m)
greatest_above s (d ∷ l) c p m = elim (Memᴰ.cases_cons m) [
  | inl e ↦ rw e (omega arith)
  | inr t ↦ omega (arith, greatest_above s l c p t)
]

greatest_one : (s : Run) (l : List Named) (p : ℕ) → 1 ≤ length l → (c : Named) × Memᴰ c l × (greatest s l p ≡ (entry (named_vector s c) p).0)
unfolding greatest
greatest_one s [] p h = absurd (omega arith)
greatest_one s (d ∷ []) p h = (d, Memᴰ.head refl, omega arith)
greatest_one s (d ∷ e ∷ l) p h =
    let w = greatest_one s (e ∷ l) p (omega arith) in
    by_bool (leb (greatest s (e ∷ l) p) (entry (named_vector s d) p).0)
    (λ q. (d, Memᴰ.head refl, omega (arith, leb-true (greatest s (e ∷ l) p) (entry (named_vector s d) p).0 q)))
    (λ q. (w.0, Memᴰ.tail w.1, omega (arith, w.2, leb-false (greatest s (e ∷ l) p) (entry (named_vector s d) p).0 q)))

-- All of a list are processes of the run and kept.
pub record Stored (s : Run) (l : List Named) : Type 0 where
  pub present : (c : Named) → Memᴰ c l → c.process < s.count
  pub kept : (c : Named) → Memᴰ c l → keeps_in s c.process c.index.0 ≡ true

-- What an accepted call says.
pub record EarliestFine (s : Run) (l : List Named) (lent : List ℕ) : Type 0 where
  pub room : s.count ≤ length lent
  pub some_named : 1 ≤ length l
  pub stored : Stored s l
  pub apart : (c d : Named) → Memᴰ c l → Memᴰ d l → (entry (named_vector s d) c.process).0 ≤ c.index.0

either_false : (a b : Bool) → (a || b) ≡ false → a ≡ false
either_false true b e = e
either_false false b e = refl

pub all_present : (s : Run) (l : List Named) → some_absent s.count l ≡ false → (c : Named) → Memᴰ c l → c.process < s.count
unfolding some_absent
all_present s l e c m = leb-false s.count c.process (none_of (λ c. leb s.count c.process) l c e m)

pub all_kept : (s : Run) (l : List Named) → some_of (not_kept s) l ≡ false → (c : Named) → Memᴰ c l → keeps_in s c.process c.index.0 ≡ true
unfolding not_kept
all_kept s l e c m = not-false _ (none_of (not_kept s) l c e m)

pub earliest_out : (s : Run) (l : List Named) (lent : List ℕ) → earliest_refusal s l lent ≡ None → EarliestFine s l lent
unfolding earliest_refusal unfit some_ordered
earliest_out s l lent e =
    let fails = no_rule _ e in
    record {
      room = ltb-false _ _ (fails 1);
      some_named = let z : length l ≡ 0 → ⊥ = eqb-false (length l) 0 (either_false (eqb (length l) 0) (ltb s.count (length l)) (either_false (eqb (length l) 0 || ltb s.count (length l)) (repeats l) (fails 3))) in omega arith;
      stored = record { present = all_present s l (fails 2); kept = all_kept s l (fails 4) };
      apart = λ c d m m'. ltb-false _ _ (none_of (λ d. comes_before c.index c.process (named_vector s d)) l d (none_of (λ c. some_of (λ d. comes_before c.index c.process (named_vector s d)) l) l c (fails 5) m) m');
    }

module _ (r : Ideal) (v : Inv r) (few : r.n ≤ most_processes) where
  -- A process of the run keeps the named checkpoint exactly if a pin of the run names it.
  pub named_kept : (c : Named) → c.process < r.n → keeps_in (state_of r) c.process c.index.0 ≡ keeps r c.process c.index.0
  unfolding process_of
  named_kept c inside = rw (process_is r c.process few inside) (kept_holds r v c.process c.index.0)

  module _ (l : List Named) (stored : Stored (state_of r) l) where
    pub inside : (c : Named) → Memᴰ c l → c.process < r.n
    inside c m = rw (count_is_lem r) at (stored.present c m)

    is_kept : (c : Named) → Memᴰ c l → keeps r c.process c.index.0 ≡ true
    is_kept c m = sym (named_kept c (inside c m)) ∙ stored.kept c m

    pub below : (c : Named) → Memᴰ c l → c.index.0 < r.own c.process
    below c m = keeps_below r v c.process c.index.0 (is_kept c m)

    -- The named checkpoint is found, and its vector is that of its state in the run.
    found : (c : Named) → Memᴰ c l → last_of (select (is_named c) (process (state_of r) c.process).kept) ≡ Some (checkpoint_of r c.process c.index.0)
    unfolding process_of kept_of is_named checkpoint_of
    found c m =
        let p = c.process in
        let k = c.index.0 in
        ap (λ (P : Process). last_of (select (is_named c) P.kept)) (process_is r p few (inside c m))
        ∙ ap last_of (select_passing (is_named c) (r.own p) (keeps r p) (checkpoint_of r p))
        ∙ last_passing (r.own p) (λ j. keeps r p j && is_named c (checkpoint_of r p j)) (checkpoint_of r p)
        ∙ ap (option_map (checkpoint_of r p)) (latest_is (r.own p) (λ j. keeps r p j && is_named c (checkpoint_of r p j)) k (below c m)
        (and_both (keeps r p k) (eqb k k) (is_kept c m) (eq-eqb k k refl))
        (λ j a b. and_no_right (keeps r p j) (eqb j k) (ne_eqb j k (omega arith))))

    vector_is : (c : Named) → Memᴰ c l → named_vector (state_of r) c ≡ vector_of r.n (r.vector c.process c.index.0)
    unfolding named_vector checkpoint_of
    vector_is c m = ap (λ (o : Option Checkpoint). (or_else o no_checkpoint).vector) (found c m)

    pub entry_of : (c : Named) (q : ℕ) → Memᴰ c l → q < r.n → (entry (named_vector (state_of r) c) q).0 ≡ r.vector c.process c.index.0 q
    entry_of c q m hq = rw (vector_is c m, entry_is r.n (r.vector c.process c.index.0) q few hq)

  -- The states that an accepted call names, with the line that it writes.
  unfoldable pub Chosen : List Named → ℕ → ℕ → Type 0
  Chosen l p k = (c : Named) × Memᴰ c l × (c.process ≡ p) × (c.index.0 ≡ k)

  module _ (l : List Named) (lent : List ℕ) (fine : EarliestFine (state_of r) l lent) where
    pub named_topped : Topped r v (Chosen l) (greatest (state_of r) l)
    unfolding Chosen
    named_topped =
        let t = fine.stored in
        record {
          there = λ p k z. rw (← z.2, ← z.3) (inside l t z.0 z.1, omega (arith, below l t z.0 z.1));
          above = λ p k q z hq. rw (← z.2, ← z.3, ← entry_of l t z.0 q z.1 hq) (greatest_above (state_of r) l z.0 q z.1);
          attained = λ q hq. let w = greatest_one (state_of r) l q fine.some_named in
              (w.0.process, w.0.index.0, (w.0, w.1, refl, refl), w.2 ∙ entry_of l t w.0 q w.1 hq);
          unordered = λ p k q j z y. rw (← z.2, ← z.3, ← y.2, ← y.3, ← entry_of l t y.0 z.0.process y.1 (inside l t z.0 z.1)) (fine.apart z.0 y.0 z.1 y.1);
        }
