-- What the functions find of named checkpoints in the words is what Earliest says of the run that sound words stand for.
-- Assumes nothing.
use Rattle.std.specs.Prelude.{◌≡◌, ◌||◌, ◌∷◌, ◌++◌, ◌+◌, ◌-◌, ◌*◌, ◌%◌, ◌≤◌, ◌<◌}
use Rattle.laws.specs.Basics.{refl, sym, ◌∙◌, ap, Bool, true, false, not, List, [], ℕ, zero, suc, max, arith, eqb, ltb, leb, length, get_or, replicate, length-replicate, eq-eqb, ne_eqb, eqb-true, eqb-false, leb-false, by_bool}
use Rattle.laws.specs.{Below.not_out, Below.all_not_any, Elements.same_test, Lists.select, Lists.last_of, Lists.or_else, Lists.table, Loops.below_at}
use Rattle.laws.specs.{Ranges.any_same, Search.all_below, Search.any_below, Search.any_none, Search.all_out, Tables.length_table, Tables.table_same}
use Rattle.laws.specs.{Select.some_append, Select.some_one, Select.some_table, Select.or_swap, Tests.some_of}
use Rattle.model.specs.declared.{Interval.Interval, Checkpoint.Checkpoint, Named.Named, Run.Run}
use Rattle.model.specs.{Words.entry, Words.comes_before, Words.no_checkpoint, Words.process, Sound.sound}
use Rattle.whole_runs.specs.Earliest.{is_named, named_vector, greatest, earliest_line, some_absent, repeats, unfit, not_kept, some_ordered}
use Rattle.words.specs.Layout.{word, count_of, kept_count_at_of, index_at_of, stored_at, vector_in, checkpoint_in, run_of}
use Rattle.words.proofs.{Same.vector_word, View.count_is_lem, ViewSound.sound_fits, ViewSound.sound_few, ViewSound.sound_part, ViewSound.sound_kept_is}
use Rattle.words_sound.proofs.Laws.{not_twice}
use Rattle.words_line.specs.Through.{pair_count_of, process_of, index_of_def, named_at, named_in, among_first, twice_in, start_of, start_at, starts_in, before_some, greatest_in, Present, Searched, InWords}
use Rattle.words_line.proofs.LineRule.{last_more, last_less}

-- The numbers of the pairs lie in the list.
pub pairs_fit : (size : ℕ) → 2 * pair_count_of size ≤ size
unfolding pair_count_of
pairs_fit size = by_bool (eqb (size % 2) 1) (λ e. rw e (omega arith)) (λ e. rw e (omega arith))

not_all : (n : ℕ) (t : ℕ → Bool) → not (all_below n (λ k. not (t k))) ≡ any_below n t
not_all n t = ap not (all_not_any n t t (λ k. refl)) ∙ not_twice (any_below n t)

-- Where a vector starts.
pub start_most : (w : List ℕ) (p i k : ℕ) → p < 16 → k ≤ 16 → start_of w p i k + 16 ≤ 6464
unfolding start_of
start_most w p i zero low few = omega arith
start_most w p i (suc k) low few = by_bool (eqb (word w (index_at_of p k) - 1) i) (λ e. rw e (omega arith)) (λ e. rw e (start_most w p i k low (omega arith)))

-- Two elements name one process, by the places of the elements.
same_process : (a b : Named) → eqb a.process b.process ≡ eqb b.process a.process
same_process a b = same_test _ _ (λ e. eq-eqb b.process a.process (sym (eqb-true a.process b.process e))) (λ e. eq-eqb a.process b.process (sym (eqb-true b.process a.process e)))

regroup : (a b c d : Bool) → ((a || b) || (c || d)) ≡ ((a || c) || (b || d))
regroup true b c d = refl
regroup false true true d = refl
regroup false true false d = refl
regroup false false true d = refl
regroup false false false d = refl

repeats_snoc : (l : List Named) (x : Named) → repeats (l ++ (x ∷ [])) ≡ (repeats l || some_of (λ d. eqb d.process x.process) l)
unfolding repeats some_of
repeats_snoc [] x = refl
repeats_snoc (c ∷ l) x =
    ap (λ (b : Bool). b || repeats (l ++ (x ∷ []))) (some_append (λ d. eqb d.process c.process) l (x ∷ []))
    ∙ rw (repeats_snoc l x, some_one (λ d. eqb d.process c.process) x, same_process x c)
    (regroup (some_of (λ d. eqb d.process c.process) l) (eqb c.process x.process) (repeats l) (some_of (λ d. eqb d.process x.process) l))

module _ (l : List ℕ) where
  none_twice : repeats [] ≡ false
  unfolding repeats
  none_twice = refl

  twice_is : (m : ℕ) → repeats (table m (named_at l)) ≡ twice_in l m
  unfolding table twice_in any_below among_first named_at
  twice_is zero = none_twice
  twice_is (suc m) =
      repeats_snoc (table m (named_at l)) (named_at l m)
      ∙ rw (some_table (λ (d : Named). eqb d.process (process_of l m)) m (named_at l), twice_is m)
      (or_swap (any_below m (λ k. any_below k (λ j. eqb (process_of l j) (process_of l k)))) (any_below m (λ j. eqb (process_of l j) (process_of l m))))

  abbrev m : ℕ
  m = pair_count_of (length l)

  many : length (named_in l) ≡ m
  unfolding named_in
  many = length_table m (named_at l)

  -- numbers 4 and 18
  pub absent_is : (n : ℕ) → some_absent n (named_in l) ≡ any_below m (λ k. leb n (process_of l k))
  unfolding some_absent named_in named_at
  absent_is n = some_table (λ (c : Named). leb n c.process) m (named_at l)

  pub unfit_is : (n : ℕ) → unfit n (named_in l) ≡ (eqb m 0 || ltb n m || twice_in l m)
  unfolding unfit named_in
  unfit_is n = rw (length_table m (named_at l), twice_is m)

  module _ (w : List ℕ) (h : sound (run_of w) ≡ true) where
    abbrev s : Run
    s = run_of w

    count : s.count ≡ count_of w
    count = count_is_lem w (sound_fits w h)

    module _ (present : any_below m (λ k. leb (count_of w) (process_of l k)) ≡ false) where
      pub in_run : (k : ℕ) → k < m → process_of l k < count_of w
      in_run k lt = leb-false (count_of w) (process_of l k) (any_none m (λ k. leb (count_of w) (process_of l k)) present k lt)

      pub all_present : Present m l
      all_present k lt = omega (arith, in_run k lt, sound_few w h)

      pub all_searched : Searched m l w
      all_searched k lt =
          let part = sound_part w h (process_of l k) (in_run k lt) in
          (omega (arith, in_run k lt, sound_few w h), omega (arith, part.kept_count_most, sound_few w h), part.used)

      -- A kept checkpoint has an index, by its word; the vector starts somewhere exactly if there is one.
      start_there : (p i k : ℕ) → any_below k (λ j. eqb (checkpoint_in w p j).index.0 i) ≡ not (eqb (start_of w p i k) 0)
      unfolding any_below start_of checkpoint_in
      start_there p i zero = sym (ap not (eq-eqb 0 0 refl))
      start_there p i (suc k) = by_bool (eqb (word w (index_at_of p k) - 1) i)
          (λ e. rw e (sym (ap not (ne_eqb (stored_at p k) 0 (λ z. omega arith)))))
          (λ e. rw e (start_there p i k))

      is_named_lem : (c : Named) (k : ℕ) (b : Bool) → eqb (word w (index_at_of c.process k) - 1) c.index.0 ≡ b → is_named c (checkpoint_in w c.process k) ≡ b
      unfolding is_named checkpoint_in
      is_named_lem c k b e = e

      its_vector : (p k : ℕ) → (checkpoint_in w p k).vector ≡ vector_in w (stored_at p k)
      unfolding checkpoint_in
      its_vector p k = refl

      start_vector : (c : Named) (k : ℕ) → (start_of w c.process c.index.0 k ≡ 0 → ⊥)
          → (or_else (last_of (select (is_named c) (table k (checkpoint_in w c.process)))) no_checkpoint).vector ≡ vector_in w (start_of w c.process c.index.0 k)
      unfolding start_of
      start_vector c zero ne = absurd (ne refl)
      start_vector c (suc k) ne = by_bool (eqb (word w (index_at_of c.process k) - 1) c.index.0)
          (λ e. rw (e, last_more (is_named c) k (checkpoint_in w c.process) (is_named_lem c k true e)) (its_vector c.process k))
          (λ e. rw (e, last_less (is_named c) k (checkpoint_in w c.process) (is_named_lem c k false e)) (start_vector c k (rw e at ne)))

      pub not_kept_lem : (k : ℕ) → k < m → not_kept s (named_at l k) ≡ eqb (start_at w l k) 0
      unfolding not_kept named_at
      not_kept_lem k lt =
          ap not (ap (some_of (λ (x : Checkpoint). eqb x.index.0 (index_of_def l k))) (sound_kept_is w h (process_of l k) (in_run k lt))
          ∙ some_table (λ (x : Checkpoint). eqb x.index.0 (index_of_def l k)) (word w (kept_count_at_of (process_of l k))) (checkpoint_in w (process_of l k))
          ∙ start_there (process_of l k) (index_of_def l k) (word w (kept_count_at_of (process_of l k))))
          ∙ not_twice (eqb (start_at w l k) 0)

      -- number 19
      pub kept_is : some_of (not_kept s) (named_in l) ≡ not (starts_in w l m).all
      unfolding named_in starts_in
      kept_is =
          some_table (not_kept s) m (named_at l)
          ∙ any_same m (λ k. not_kept s (named_at l k)) (λ k. eqb (start_at w l k) 0) not_kept_lem
          ∙ sym (not_all m (λ k. eqb (start_at w l k) 0))

      module _ (few : m ≤ 16) (all : (starts_in w l m).all ≡ true) where
        some_start : (k : ℕ) → k < m → start_at w l k ≡ 0 → ⊥
        unfolding starts_in
        some_start k lt = eqb-false (start_at w l k) 0 (not_out (eqb (start_at w l k) 0) true (all_out m (λ k. not (eqb (start_at w l k) 0)) all k lt))

        start_at_lem : (k : ℕ) → k < m → get_or (starts_in w l m).starts k 0 ≡ start_at w l k
        unfolding starts_in
        start_at_lem k lt = let size = length-replicate {A = ℕ} 16 0 in below_at (start_at w l) (replicate 16 0) m k 0 lt (omega arith)

        pub all_in_words : InWords (starts_in w l m).starts m
        all_in_words k lt =
            let known = all_searched k lt in
            omega (arith, start_at_lem k lt, start_most w (process_of l k) (index_of_def l k) (word w (kept_count_at_of (process_of l k))) known.0 known.1)

        vector_is : (k : ℕ) → k < m → named_vector s (named_at l k) ≡ vector_in w (get_or (starts_in w l m).starts k 0)
        unfolding named_vector named_at
        vector_is k lt =
            ap (λ (x : List Checkpoint). (or_else (last_of (select (is_named (named_at l k)) x)) no_checkpoint).vector) (sound_kept_is w h (process_of l k) (in_run k lt))
            ∙ start_vector (named_at l k) (word w (kept_count_at_of (process_of l k))) (some_start k lt)
            ∙ ap (vector_in w) (sym (start_at_lem k lt))

        entry_is : (k p : ℕ) → k < m → p < 16 → (entry (named_vector s (named_at l k)) p).0 ≡ word w (get_or (starts_in w l m).starts k 0 + p)
        entry_is k p lt low = ap (λ (v : List Interval). (entry v p).0) (vector_is k lt) ∙ ap (λ (x : Interval). x.0) (vector_word w (get_or (starts_in w l m).starts k 0) p low)

        before_is : (k j : ℕ) → k < m → j < m
            → comes_before (named_at l k).index (named_at l k).process (named_vector s (named_at l j)) ≡ ltb (index_of_def l k) (word w (get_or (starts_in w l m).starts j 0 + process_of l k))
        unfolding named_at
        before_is k j lt less = ap (ltb (index_of_def l k)) (entry_is j (process_of l k) less (all_present k lt))

        -- number 20
        pub ordered_is : some_ordered s (named_in l) ≡ any_below m (λ k. before_some w (starts_in w l m).starts m (process_of l k) (index_of_def l k))
        unfolding some_ordered named_in before_some
        ordered_is =
            some_table (λ (c : Named). some_of (λ (d : Named). comes_before c.index c.process (named_vector s d)) (table m (named_at l))) m (named_at l)
            ∙ any_same m _ _ (λ k lt. some_table (λ (d : Named). comes_before (named_at l k).index (named_at l k).process (named_vector s d)) m (named_at l)
            ∙ any_same m _ _ (λ j less. before_is k j lt less))

        nothing_greatest : (p : ℕ) → greatest s [] p ≡ 0
        unfolding greatest
        nothing_greatest p = refl

        greatest_snoc : (k : List Named) (x : Named) (p : ℕ) → greatest s (k ++ (x ∷ [])) p ≡ max (greatest s k p) (entry (named_vector s x) p).0
        unfolding greatest
        greatest_snoc [] x p = omega arith
        greatest_snoc (c ∷ k) x p = omega (arith, greatest_snoc k x p)

        -- the line
        greatest_to : (k : ℕ) → k ≤ m → (p : ℕ) → p < 16 → greatest s (table k (named_at l)) p ≡ greatest_in w (starts_in w l m).starts p k
        unfolding table greatest_in
        greatest_to zero le p low = nothing_greatest p
        greatest_to (suc k) le p low =
            greatest_snoc (table k (named_at l)) (named_at l k) p
            ∙ omega (arith, greatest_to k (omega arith) p low, entry_is k p (omega arith) low)

        pub line_is : table (count_of w) (λ p. greatest_in w (starts_in w l m).starts p m) ≡ earliest_line s (named_in l)
        unfolding earliest_line named_in
        line_is =
            table_same (count_of w) _ (greatest s (table m (named_at l))) (λ p lt. sym (greatest_to m (omega arith) p (omega (arith, sound_few w h))))
            ∙ ap (λ (n : ℕ). table n (greatest s (table m (named_at l)))) (sym count)
