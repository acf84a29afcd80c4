-- The clauses of document 01 about one process, over the checkpoints and pins that the words hold, as tests of the words.
-- Assumes nothing.
use Rattle.std.specs.Prelude.{◌≡◌, ◌&&◌, ◌||◌, ◌∷◌, ◌++◌, ◌+◌, ◌-◌, ◌*◌, ◌≤◌, ◌<◌, Some}
use Rattle.laws.specs.Basics.{refl, sym, ◌∙◌, ap, Bool, not, List, [], map, ℕ, zero, suc, arith, eqb, ltb, leb, eq-eqb, ne_eqb, eqb-true, lt-ltb, ltb-true, le-leb, leb-true, pick, by_bool}
use Rattle.laws.specs.{Elements.same_test, Lists.or_else, Lists.last_of, Lists.table, Ranges.all_same, Ranges.any_same, Tests.every}
use Rattle.laws.specs.{Rows.all_both, Rows.and_swap, Rows.and_true, Search.all_below, Search.any_below, Search.all_in, Search.all_out}
use Rattle.laws.specs.Select.{map_append, last_of_snoc, some_table}
use Rattle.model.specs.declared.{Interval.Interval, Checkpoint.Checkpoint}
use Rattle.model.specs.Words.{most_processes, entry, names, is_pinned, no_checkpoint, blocks_of}
use Rattle.model.specs.Sound.{ascending, pin_sound, is_nothing_of, nothing_from, cause_sound}
use Rattle.words.specs.Layout.{word, count_of, blocks_at_of, pins_at_of, cause_at_of, stored_at, index_of_def, pin_of_def, vector_in, pins_in, checkpoint_in}
use Rattle.words.proofs.{Reading.names_word, Same.vector_word}
use Rattle.words_sound.specs.Test.{own_in, most, pin_in, unused_pins, index_in_of, index_before, pin_fits}
use Rattle.words_sound.proofs.Laws.{every_table_is, every_after, next_of, next_snoc, ascending_snoc}

-- A word that is one above a number is another such word.
one_less : (y x : ℕ) → 1 ≤ x → eqb y (x - 1) ≡ eqb (suc y) x
one_less y x some = same_test (eqb y (x - 1)) (eqb (suc y) x)
    (λ e. eq-eqb (suc y) x (omega (arith, eqb-true y (x - 1) e)))
    (λ e. eq-eqb y (x - 1) (omega (arith, eqb-true (suc y) x e)))

both_less : (y x : ℕ) → 1 ≤ y → 1 ≤ x → eqb (y - 1) (x - 1) ≡ eqb y x
both_less y x some-y some-x = same_test (eqb (y - 1) (x - 1)) (eqb y x)
    (λ e. eq-eqb y x (omega (arith, eqb-true (y - 1) (x - 1) e)))
    (λ e. eq-eqb (y - 1) (x - 1) (omega (arith, eqb-true y x e)))

below_less : (y x : ℕ) → 1 ≤ x → leb y (x - 1) ≡ ltb y x
below_less y x some = same_test (leb y (x - 1)) (ltb y x)
    (λ e. lt-ltb y x (omega (arith, leb-true y (x - 1) e)))
    (λ e. le-leb y (x - 1) (omega (arith, ltb-true y x e)))

nothing_word : (x : ℕ) → is_nothing_of (pin_of_def x) ≡ eqb x 0
unfolding pin_of_def is_nothing_of
nothing_word zero = refl
nothing_word (suc x) = sym (ne_eqb (suc x) 0 (omega arith))

pub blocks_append : (l : List Checkpoint) (c : Checkpoint) → blocks_of (l ++ (c ∷ [])) ≡ blocks_of l + c.blocks
unfolding blocks_of
blocks_append [] c = omega arith
blocks_append (x ∷ l) c = omega (arith, blocks_append l c)

module _ (w : List ℕ) (p : ℕ) where
  -- "unused pins .. are none"
  pub pins_rest : ((f : ℕ) → f < count_of w → 1 ≤ own_in w f) → nothing_from (count_of w) (pins_in w (pins_at_of p)) ≡ unused_pins w p
  unfolding nothing_from pins_in unused_pins most
  pins_rest owned =
      every_after is_nothing_of (count_of w) most_processes (λ f. pin_of_def (pin_in w p f))
      ∙ all_same most_processes (λ f. ltb f (count_of w) || is_nothing_of (pin_of_def (pin_in w p f))) (λ f. not (eqb (pick (ltb f (count_of w)) (own_in w f) 0) 0) || eqb (pin_in w p f) 0)
      (λ f lt. rw (nothing_word (pin_in w p f)) (by_bool (ltb f (count_of w))
      (λ e. rw (e, ne_eqb (own_in w f) 0 (let some = owned f (ltb-true f (count_of w) e) in omega arith)))
      (λ e. rw e)))

  -- "each one's own entry equal to its index"
  pub kept_own : (h : ℕ) → p < 16 → every (λ c. eqb (entry c.vector p).0 c.index.0) (table h (checkpoint_in w p)) ≡ all_below h (λ k. eqb (word w (stored_at p k + p)) (index_in_of w p k - 1))
  unfolding checkpoint_in
  kept_own h lt =
      every_table_is (λ (c : Checkpoint). eqb (entry c.vector p).0 c.index.0) h (checkpoint_in w p)
      ∙ all_same h (λ k. eqb (entry (vector_in w (stored_at p k)) p).0 (index_in_of w p k - 1)) (λ k. eqb (word w (stored_at p k + p)) (index_in_of w p k - 1))
      (λ k less. ap (λ (x : Interval). eqb x.0 (index_in_of w p k - 1)) (vector_word w (stored_at p k) p lt))

  -- Where no index among the first h is 0:
  module _ (h : ℕ) (some : (k : ℕ) → k < h → 1 ≤ index_in_of w p k) where
    -- "Every pin is none or names a kept one"
    pin_fits_lem : (x : ℕ) → pin_sound (table h (checkpoint_in w p)) (pin_of_def x) ≡ (eqb x 0 || any_below h (λ k. eqb x (index_in_of w p k)))
    unfolding pin_of_def pin_sound checkpoint_in
    pin_fits_lem zero = refl
    pin_fits_lem (suc x) =
        some_table (λ (c : Checkpoint). names (Some (record { 0 = x })) c.index) h (checkpoint_in w p)
        ∙ any_same h (λ k. eqb x (index_in_of w p k - 1)) (λ k. eqb (suc x) (index_in_of w p k)) (λ k lt. one_less x (index_in_of w p k) (some k lt))
        ∙ rw (ne_eqb (suc x) 0 (omega arith))

    pub pins_fit : every (pin_sound (table h (checkpoint_in w p))) (pins_in w (pins_at_of p)) ≡ all_below most_processes (pin_fits w p h)
    unfolding pins_in pin_fits
    pins_fit =
        every_table_is (pin_sound (table h (checkpoint_in w p))) most_processes (λ f. pin_of_def (pin_in w p f))
        ∙ all_same most_processes (λ f. pin_sound (table h (checkpoint_in w p)) (pin_of_def (pin_in w p f))) (pin_fits w p h) (λ f lt. pin_fits_lem (pin_in w p f))

    -- "every kept one is pinned"
    pub kept_pinned : every (is_pinned (pins_in w (pins_at_of p))) (table h (checkpoint_in w p)) ≡ all_below h (λ k. any_below most_processes (λ f. eqb (pin_in w p f) (index_in_of w p k)))
    unfolding is_pinned pins_in checkpoint_in
    kept_pinned =
        every_table_is (is_pinned (pins_in w (pins_at_of p))) h (checkpoint_in w p)
        ∙ all_same h (λ k. is_pinned (pins_in w (pins_at_of p)) (checkpoint_in w p k)) (λ k. any_below most_processes (λ f. eqb (pin_in w p f) (index_in_of w p k)))
        (λ k lt. some_table (λ pin. names pin (index_of_def (index_in_of w p k))) most_processes (λ f. pin_of_def (pin_in w p f))
        ∙ any_same most_processes (λ f. names (pin_of_def (pin_in w p f)) (index_of_def (index_in_of w p k))) (λ f. eqb (pin_in w p f) (index_in_of w p k)) (λ f less. names_word (pin_in w p f) (index_in_of w p k) (some k lt)))

    -- Note 5: causes and block counts
    pub kept_records : 1 ≤ h → word w (blocks_at_of p) ≤ 65535
        → all_below h (λ k. cause_sound (index_in_of w p k - 1) (word w (cause_at_of p k)) && (leb 1 (word w (blocks_at_of p)) && leb (word w (blocks_at_of p)) 65535) && eqb (word w (blocks_at_of p)) (word w (blocks_at_of p)))
        ≡ (all_below h (λ k. cause_sound (index_in_of w p k - 1) (word w (cause_at_of p k))) && leb 1 (word w (blocks_at_of p)))
    kept_records kept few =
        let cause : ℕ → Bool = λ k. cause_sound (index_in_of w p k - 1) (word w (cause_at_of p k)) in
        let b = word w (blocks_at_of p) in
        all_same h (λ k. cause k && (leb 1 b && leb b 65535) && eqb b b) (λ k. cause k && leb 1 b)
        (λ k lt. rw (le-leb b 65535 few, eq-eqb b b refl, and_true (leb 1 b)) (and_true (cause k && leb 1 b)))
        ∙ all_both h cause (λ k. leb 1 b)
        ∙ ap (λ (x : Bool). all_below h cause && x) (same_test (all_below h (λ k. leb 1 b)) (leb 1 b) (λ e. all_out h (λ k. leb 1 b) e 0 kept) (λ e. all_in h (λ k. leb 1 b) (λ k lt. e)))

  -- "indexes ascending"
  pub next_index : (h : ℕ) → ((k : ℕ) → k < h → 1 ≤ index_in_of w p k) → next_of 0 (map (λ c. c.index.0) (table h (checkpoint_in w p))) ≡ index_before w p h
  unfolding table next_of index_before checkpoint_in
  next_index zero some = refl
  next_index (suc h) some =
      rw (map_append (λ (c : Checkpoint). c.index.0) (table h (checkpoint_in w p)) (checkpoint_in w p h ∷ []))
      (next_snoc 0 (map (λ (c : Checkpoint). c.index.0) (table h (checkpoint_in w p))) (index_in_of w p h - 1) ∙ omega (arith, some h (omega arith)))

  pub kept_ascend : (h : ℕ) → ((k : ℕ) → k < h → 1 ≤ index_in_of w p k)
      → ascending 0 (map (λ c. c.index.0) (table h (checkpoint_in w p))) ≡ all_below h (λ k. ltb (index_before w p k) (index_in_of w p k))
  unfolding table ascending all_below checkpoint_in
  kept_ascend zero some = refl
  kept_ascend (suc h) some =
      rw (map_append (λ (c : Checkpoint). c.index.0) (table h (checkpoint_in w p)) (checkpoint_in w p h ∷ []))
      (ascending_snoc 0 (map (λ (c : Checkpoint). c.index.0) (table h (checkpoint_in w p))) (index_in_of w p h - 1)
      ∙ rw (kept_ascend h (λ k lt. some k (omega arith)), next_index h (λ k lt. some k (omega arith)), below_less (index_before w p h) (index_in_of w p h) (some h (omega arith)))
      (and_swap (all_below h (λ k. ltb (index_before w p k) (index_in_of w p k))) (ltb (index_before w p h) (index_in_of w p h))))

  -- "the last is the own entry minus 1"
  pub kept_last : (h o : ℕ) → 1 ≤ h → 1 ≤ o → ((k : ℕ) → k < h → 1 ≤ index_in_of w p k)
      → eqb (or_else (last_of (table h (checkpoint_in w p))) no_checkpoint).index.0 (o - 1) ≡ eqb (index_before w p h) o
  unfolding table index_before checkpoint_in
  kept_last zero o kept some_own some = absurd (omega arith)
  kept_last (suc h) o kept some_own some = rw (last_of_snoc (table h (checkpoint_in w p)) (checkpoint_in w p h)) (both_less (index_in_of w p h) o (some h (omega arith)) some_own)

  -- The blocks of all kept checkpoints: each has the process's count.
  pub kept_blocks_lem : (h : ℕ) → blocks_of (table h (checkpoint_in w p)) ≡ h * word w (blocks_at_of p)
  unfolding table blocks_of checkpoint_in
  kept_blocks_lem zero = omega arith
  kept_blocks_lem (suc h) = blocks_append (table h (checkpoint_in w p)) (checkpoint_in w p h) ∙ omega (arith, kept_blocks_lem h)
