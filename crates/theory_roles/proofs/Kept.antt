-- What a list and the counts hold on a state that console calls reach: what the history keeps.
-- Assumes nothing.
use Rattle.std.specs.Prelude.{◌≡◌, ◌*◌, ◌≤◌, ◌<◌}
use Rattle.laws.specs.Basics.{refl, sym, ◌∙◌, ap, true, false, List, [], None, Some, ℕ, arith, ltb, length, lt-ltb, le-ltb, pick, by_bool}
use Rattle.laws.specs.{Counting.count_same, Front.written_front, Lists.table, Lists.gather, Sums.sum_below, Sums.sum_same, Sums.length_gather}
use Rattle.laws.specs.Tables.{gather_same, table_same, length_table}
use Rattle.model.specs.declared.{Run.Run, Refusal.TheVariants.ListTooShort}
use Rattle.model.specs.{Words.most_processes, Words.process, Steps.Deletion, Steps.listed, Sound.sound, Refusals.first_of}
use Rattle.whole_runs.specs.{Outcomes.pairs, Survival.Surviving, Answers.live_of}
use Rattle.histories.proofs.{Run.Ideal, Run.keeps, Invariant.Inv}
use Rattle.model.proofs.simulation.View.{kept_of, process_of, state_of}
use Rattle.model.proofs.{simulation.Reads.count_is_lem, simulation.Reads.process_is, simulation.Kept.kept_length, simulation.Kept.kept_most}
use Rattle.whole_runs.proofs.{whole.Pairs.length_listed, whole.Pairs.length_pairs, whole.Handed.gather_length, whole.Agreement.Agrees, whole.Agreement.live_is, whole.Reached.Reached, WholeRuns.reached_sound}
use Rattle.whole_runs.proofs.whole.Gone.{pairs_gather, pair_if, listed_pairs}
use Rattle.theory_roles.specs.declared.{Caller.Caller, Operation.TheVariants.List as Listing, Operation.TheVariants.Counts}
use Rattle.theory_roles.specs.Console.{denied, entitled, listed_to, list_refusal, console_list, kept_counts, counts_refusal, console_counts}
use Rattle.theory_roles.specs.Shown.{kept_number, kept_pairs, ListIsRight, CountsAreRight, ListIsKept, CountsAreKept}
use Rattle.theory_roles.proofs.Runs.{console_reached}

module _ (r : Ideal) (h : Surviving) (v : Inv r) (g : Agrees h r) (few : r.n ≤ most_processes) where
  -- What a process keeps, by the state and by the history.
  kept_is : (p : ℕ) → p < r.n → (process (state_of r) p).kept ≡ kept_of r p
  unfolding process_of
  kept_is p hp = rw (process_is r p few hp)

  number_is : (p : ℕ) → p < r.n → length (process (state_of r) p).kept ≡ kept_number h p
  unfolding kept_number
  number_is p hp = rw (kept_is p hp) (kept_length r p ∙ rw (live_is h r v g p) (count_same (r.own p) (keeps r p) (h.kept p) (λ k lt. sym (g.kept p k hp))))

  part_is : (p : ℕ) → p < r.n → pairs (listed p (process (state_of r) p).kept) ≡ gather (live_of h p) (pair_if p (h.kept p))
  unfolding kept_of
  part_is p hp = rw (kept_is p hp) (listed_pairs r p (r.own p) (keeps r p) ∙ rw (live_is h r v g p) (gather_same (r.own p) _ _ (λ k lt. rw (g.kept p k hp))))

  -- What a list has of process p.
  abbrev part_to : Caller → ℕ → List Deletion
  part_to c p = pick (entitled c r.n p) (listed p (process (state_of r) p).kept) []

  listed_here : (c : Caller) → listed_to c (state_of r) ≡ gather r.n (part_to c)
  unfolding listed_to
  listed_here c = ap (λ (n : ℕ). gather n (λ p. pick (entitled c n p) (listed p (process (state_of r) p).kept) [])) (count_is_lem r)

  -- The pairs of a list, how many there are, and that the lent list has room for them.
  listed_is : (c : Caller) → pairs (listed_to c (state_of r)) ≡ kept_pairs c r.n h
  unfolding kept_pairs pairs
  listed_is c = rw (listed_here c) (pairs_gather r.n (part_to c)
      ∙ gather_same r.n _ _ (λ p hp. by_bool (entitled c r.n p) (λ e. rw e (part_is p hp)) (λ e. rw e)))

  listed_number : (c : Caller) → length (listed_to c (state_of r)) ≡ sum_below r.n (λ p. pick (entitled c r.n p) (kept_number h p) 0)
  listed_number c = rw (listed_here c) (length_gather r.n (part_to c)
      ∙ sum_same r.n _ _ (λ p hp. by_bool (entitled c r.n p)
      (λ e. rw e (length_listed p (process (state_of r) p).kept ∙ number_is p hp))
      (λ e. rw e)))

  listed_few : (c : Caller) → length (listed_to c (state_of r)) ≤ r.n * r.n
  listed_few c = rw (listed_here c) (gather_length r.n r.n (part_to c)
      (λ p hp. by_bool (entitled c r.n p)
      (λ e. rw (e, length_listed p (process (state_of r) p).kept, kept_is p hp) (kept_most r p))
      (λ e. rw e (omega arith))))

  -- The numbers of the counts.
  counts_are : kept_counts (state_of r) ≡ table r.n (kept_number h)
  unfolding kept_counts
  counts_are = ap (λ (n : ℕ). table n (λ p. length (process (state_of r) p).kept)) (count_is_lem r) ∙ table_same r.n _ _ (λ p hp. number_is p hp)

-- On a sound state no number but 3 is met.
list_refusal_lem : (s : Run) (lent : List ℕ) → sound s ≡ true → list_refusal s lent ≡ pick (ltb (length lent) (2 * s.count * s.count)) (Some ListTooShort) None
unfolding list_refusal first_of
list_refusal_lem s lent e = rw e

counts_refusal_lem : (s : Run) (lent : List ℕ) → sound s ≡ true → counts_refusal s lent ≡ pick (ltb (length lent) s.count) (Some ListTooShort) None
unfolding counts_refusal first_of
counts_refusal_lem s lent e = rw e

module _ (n : ℕ) (s : Run) (h : Surviving) (r : Ideal) (v : Reached n s h r) (c : Caller) (lent : List ℕ) where
  size_is : s.count ≡ n
  size_is = ap (λ (t : Run). t.count) v.state ∙ count_is_lem r ∙ v.size

  pairs_of : pairs (listed_to c s) ≡ kept_pairs c n h
  pairs_of = rw (v.state, ← v.size) (listed_is r h v.inv v.agrees v.limits.few_processes c)

  number_of : length (listed_to c s) ≡ sum_below n (λ p. pick (entitled c n p) (kept_number h p) 0)
  number_of = rw (v.state, ← v.size) (listed_number r h v.inv v.agrees v.limits.few_processes c)

  few_of : length (listed_to c s) ≤ n * n
  few_of = rw (v.state, ← v.size) (listed_few r h v.inv v.agrees v.limits.few_processes c)

  counts_of : kept_counts s ≡ table n (kept_number h)
  counts_of = rw (v.state, ← v.size) (counts_are r h v.inv v.agrees v.limits.few_processes)

  list_none : 2 * n * n ≤ length lent → list_refusal s lent ≡ None
  list_none room = list_refusal_lem s lent (reached_sound n s h r v) ∙ rw (size_is, le-ltb (length lent) (2 * n * n) room)

  list_short : length lent < 2 * n * n → list_refusal s lent ≡ Some ListTooShort
  list_short short = list_refusal_lem s lent (reached_sound n s h r v) ∙ rw (size_is, lt-ltb (length lent) (2 * n * n) short)

  counts_none : n ≤ length lent → counts_refusal s lent ≡ None
  counts_none room = counts_refusal_lem s lent (reached_sound n s h r v) ∙ rw (size_is, le-ltb (length lent) n room)

  counts_short : length lent < n → counts_refusal s lent ≡ Some ListTooShort
  counts_short short = counts_refusal_lem s lent (reached_sound n s h r v) ∙ rw (size_is, lt-ltb (length lent) n short)

  reached_list : denied c Listing ≡ false → ListIsRight n s h c lent
  unfolding console_list
  reached_list e = record {
    short = λ short. rw (e, list_short short) (refl, refl);
    count = λ room. rw (e, list_none room) (rw number_of);
    pairs = λ room. rw (e, list_none room) (written_front lent (pairs (listed_to c s)) (omega (arith, length_pairs (listed_to c s), few_of)) ∙ rw pairs_of);
  }

  reached_counts : denied c Counts ≡ false → CountsAreRight n s h c lent
  unfolding console_counts
  reached_counts e = record {
    short = λ short. rw (e, counts_short short) (refl, refl);
    answer = λ room. rw (e, counts_none room);
    numbers = λ room. rw (e, counts_none room, counts_of) (written_front lent (table n (kept_number h)) (omega (arith, length_table n (kept_number h))));
  }

pub list_is_kept : ListIsKept
unfolding ListIsKept
list_is_kept by n sizes e calls c lent may = let w = console_reached by n sizes e calls in reached_list n _ _ w.0 w.1 c lent may

pub counts_are_kept : CountsAreKept
unfolding CountsAreKept
counts_are_kept by n sizes e calls c lent may = let w = console_reached by n sizes e calls in reached_counts n _ _ w.0 w.1 c lent may
