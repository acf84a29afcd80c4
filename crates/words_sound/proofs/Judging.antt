-- What the functions find, part by part, as the tests of specs/Test.
-- Assumes nothing.
use Rattle.std.specs.Prelude.{◌≡◌, ◌&&◌, ◌||◌, ◌∷◌, ◌+◌, ◌-◌, ◌*◌, ◌≤◌, ◌<◌}
use Rattle.laws.specs.Basics.{refl, sym, ◌∙◌, ap, Bool, true, false, not, List, ℕ, suc, arith, eqb, ltb, leb, length, get_or, replicate, length-replicate, get_or-replicate, eq-eqb, ne_eqb, eqb-true, lt-ltb, le-ltb, le-leb, lt-leb, leb-true, not-true, not-false, pick, by_bool}
use native.Mathlib.Nat.{mul-le-mul}
use native.Mathlib.Numerals.{add-one}
use lib.Bits.{bit_or}
use Rattle.laws.specs.Conjunctions.{test, ◌and◌, holds, asks, conjunction, part_fails}
use Rattle.laws.specs.{Elements.same_test, Lists.table, Loops.set_below, Loops.below_length, Loops.below_at, Loops.below_above, Ranges.all_same, Ranges.any_same}
use Rattle.laws.specs.{Rows.and_group, Rows.and_swap, Rows.and_true, Rows.all_both, Rows.all_stop, Rows.by_lt, Sums.sum_below}
use Rattle.laws.specs.{Search.all_below, Search.any_below, Search.all_in, Search.all_out, Tables.get_d_table, Tables.table_same, Tables.table_is}
use Rattle.laws.specs.{Tests.every, Tests.all_of, Tests.count_below, Truth.and_left, Truth.and_right, Truth.or_none}
use Rattle.model.specs.declared.{Interval.Interval, CheckpointIndex.CheckpointIndex}
use Rattle.model.specs.{Words.most_processes, Words.entry, Sound.sound, Sound.cause_sound}
use Rattle.words.specs.Layout.{state_size, word, wide2, wide4, count_of, end_of, kept_count_at_of, blocks_at_of, part_at, pins_at_of, cause_at_of, stored_at, sender_at_of, receiver_at_of, carried_at, low_at, high_at, interval_of, index_of_def, row_in, vector_in, run_of}
use Rattle.words.proofs.Same.{vector_word, row_word}
use Rattle.words_sound.proofs.{rows.Ors.or_zero, rows.Ors.less_zero, Parts.least, Whole.test_is_sound}
use Rattle.words_sound.specs.Test.{own_in, most, row_within_of, pin_in, unused_pins, index_in_of, index_before, kept_tests, kept_fits, pin_fits, counts_fit, part_tests, part_fits, blocks_in, disk_fits, number_in, number_before, message_tests, message_fits, carried_fits, messages_tests, sound_tests, sound_in, limits_in}

-- Three tests, the first of which fails; and two that hold before a third.
pub first_fails : (a b c : Bool) → false ≡ a → false ≡ (a && b && c)
first_fails a b c e = rw (sym e)

pub second_fails : (a b c : Bool) → b ≡ false → false ≡ (a && b && c)
second_fails true b c e = rw e
second_fails false b c e = refl

pub second_left : (a b : Bool) → a ≡ true → b ≡ (a && b)
second_left a b e = rw e

pub third_left : (a b c : Bool) → a ≡ true → b ≡ true → c ≡ (a && b && c)
third_left a b c e f = rw (e, f)

pub fourth_left : (a b c d : Bool) → a ≡ true → b ≡ true → c ≡ true → d ≡ (a && b && c && d)
fourth_left a b c d e f g = rw (e, f, g)

pub fifth_left : (a b c d x : Bool) → a ≡ true → b ≡ true → c ≡ true → d ≡ true → x ≡ (a && b && c && d && x)
fifth_left a b c d x e f g h = rw (e, f, g, h)

-- Tests over two bounds, one within the other, either way round; a test together with one that does not depend on the bound.
all_swap : (n m : ℕ) (t : ℕ → ℕ → Bool) → all_below n (λ f. all_below m (λ j. t j f)) ≡ all_below m (λ j. all_below n (λ f. t j f))
all_swap n m t = same_test (all_below n (λ f. all_below m (λ j. t j f))) (all_below m (λ j. all_below n (λ f. t j f)))
    (λ e. all_in m (λ j. all_below n (λ f. t j f)) (λ j below. all_in n (λ f. t j f) (λ f lt. all_out m (λ j. t j f) (all_out n (λ f. all_below m (λ j. t j f)) e f lt) j below)))
    (λ e. all_in n (λ f. all_below m (λ j. t j f)) (λ f lt. all_in m (λ j. t j f) (λ j below. all_out n (λ f. t j f) (all_out m (λ j. all_below n (λ f. t j f)) e j below) f lt)))

or_all : (n : ℕ) (c : Bool) (t : ℕ → Bool) → all_below n (λ f. c || t f) ≡ (c || all_below n t)
or_all n true t = all_in n (λ f. true) (λ f lt. refl)
or_all n false t = refl

-- The own entries, gathered one by one.
abbrev pub no_interval : Interval
no_interval = record { 0 = 0 }

module _ (w : List ℕ) where
  abbrev pub own_at : ℕ → Interval
  own_at f = interval_of (own_in w f)

  pub limits_gathered : count_of w ≤ 16 → set_below (count_of w) (λ f. interval_of (own_in w f)) (replicate 16 (record { 0 = 0 })) ≡ limits_in w
  unfolding limits_in most
  limits_gathered few = table_is no_interval (set_below (count_of w) own_at (replicate 16 no_interval)) 16 (λ f. interval_of (pick (ltb f (count_of w)) (own_in w f) 0))
      (below_length own_at (replicate 16 no_interval) (count_of w) ∙ length-replicate 16 no_interval)
      (λ f lt. by_lt f (count_of w)
      (λ less. rw (lt-ltb f (count_of w) less) (below_at own_at (replicate 16 no_interval) (count_of w) f no_interval less (rw (length-replicate 16 no_interval) lt)))
      (λ from. rw (le-ltb f (count_of w) from) (below_above own_at (replicate 16 no_interval) (count_of w) f no_interval from ∙ get_or-replicate 16 f no_interval no_interval lt)))

  -- A row with a vector more: a word is 0 where it was, and where the entry is within the own one. The pins against what they may be, a word among the pins.
  pub over_at : (at f : ℕ) (over more : List ℕ) (v limits : List Interval) → v ≡ vector_in w at → limits ≡ limits_in w → more ≡ table 16 (λ f. bit_or (get_or over f 0) ((entry v f).0 - (entry limits f).0)) → f < 16
      → eqb (get_or more f 0) 0 ≡ (eqb (get_or over f 0) 0 && leb (word w (at + f)) (most w f))
  unfolding limits_in
  over_at at f over more v limits ev el em lt =
      rw (em, get_d_table 16 (λ f. bit_or (get_or over f 0) ((entry v f).0 - (entry limits f).0)) f 0 lt, ev, el, vector_word w at f lt, get_d_table most_processes (λ f. interval_of (most w f)) f (record { 0 = 0 }) lt)
      (or_zero (get_or over f 0) (word w (at + f) - most w f) ∙ ap (λ b. eqb (get_or over f 0) 0 && b) (less_zero (word w (at + f)) (most w f)))

  pub pins_within : (p : ℕ) (pins columns : List ℕ) (owns : List Interval) → ((k : ℕ) → word w k ≤ 65535) → pins ≡ row_in w (pins_at_of p) → owns ≡ limits_in w
      → columns ≡ table 16 (λ f. pick (eqb (entry owns f).0 0) 0 65535) → all_below 16 (λ f. leb (get_or pins f 0) (get_or columns f 0)) ≡ unused_pins w p
  unfolding unused_pins limits_in
  pins_within p pins columns owns small ep eo ec = rw (ep, ec, eo)
      (all_same 16 (λ f. leb (get_or (row_in w (pins_at_of p)) f 0) (get_or (table 16 limit_at) f 0)) (λ f. not (eqb (most w f) 0) || eqb (pin_in w p f) 0)
      (λ f lt. rw (row_word w (pins_at_of p) f lt, get_d_table 16 limit_at f 0 lt, get_d_table most_processes (λ f. interval_of (most w f)) f (record { 0 = 0 }) lt) (by_bool (eqb (most w f) 0)
      (λ e. rw e (least (pin_in w p f)))
      (λ e. rw e (le-leb (pin_in w p f) 65535 (small (pins_at_of p + f)))))))
    where
      limit_at : ℕ → ℕ
      limit_at f = pick (eqb (entry (table most_processes (λ f. interval_of (most w f))) f).0 0) 0 65535

  -- What is off in the vector and the pins of a process.
  pub rows_are : (p : ℕ) (pins columns outside first : List ℕ) (owns v : List Interval) → ((k : ℕ) → word w k ≤ 65535) → pins ≡ row_in w (pins_at_of p) → owns ≡ limits_in w
      → columns ≡ table 16 (λ f. pick (eqb (entry owns f).0 0) 0 65535) → v ≡ vector_in w (part_at p) → outside ≡ table 16 (λ f. get_or pins f 0 - get_or columns f 0)
      → first ≡ table 16 (λ f. bit_or (get_or outside f 0) ((entry v f).0 - (entry owns f).0)) → all_below 16 (λ f. eqb (get_or first f 0) 0) ≡ (row_within_of w (part_at p) && unused_pins w p)
  unfolding row_within_of
  rows_are p pins columns outside first owns v small ep eo ec ev ex ef =
      let pin : ℕ → Bool = λ f. leb (get_or pins f 0) (get_or columns f 0) in
      let row : ℕ → Bool = λ f. leb (word w (part_at p + f)) (most w f) in
      all_same 16 (λ f. eqb (get_or first f 0) 0) (λ f. pin f && row f)
      (λ f lt. over_at (part_at p) f outside first v owns ev eo ef lt
      ∙ ap (λ b. b && row f) (ap (λ (l : List ℕ). eqb (get_or l f 0) 0) ex ∙ ap (λ (x : ℕ). eqb x 0) (get_d_table 16 (λ f. get_or pins f 0 - get_or columns f 0) f 0 lt) ∙ less_zero (get_or pins f 0) (get_or columns f 0)))
      ∙ all_both 16 pin row
      ∙ and_swap (all_below 16 pin) (all_below 16 row)
      ∙ ap (λ b. all_below 16 row && b) (pins_within p pins columns owns small ep eo ec)

  pub pinned_row : (p x : ℕ) (pins : List ℕ) → pins ≡ row_in w (pins_at_of p) → any_below 16 (λ f. eqb (get_or pins f 0) x) ≡ any_below 16 (λ f. eqb (pin_in w p f) x)
  pinned_row p x pins ep = rw ep (any_same 16 (λ f. eqb (get_or (row_in w (pins_at_of p)) f 0) x) (λ f. eqb (pin_in w p f) x) (λ f lt. rw (row_word w (pins_at_of p) f lt)))

  -- The numbers of a kept checkpoint.
  pub numbered : (p k x before sa ca : ℕ) (i : Interval) (j : CheckpointIndex) (s : Bool) → before < x → sa ≡ stored_at p k → i ≡ interval_of (word w (sa + p)) → j ≡ index_of_def x → ca ≡ cause_at_of p k
      → s ≡ cause_sound j.0 (word w ca) → (eqb i.0 j.0 && s) ≡ (ltb before x && eqb (word w (stored_at p k + p)) (x - 1) && cause_sound (x - 1) (word w (cause_at_of p k)))
  numbered p k x before sa ca i j s lt e1 e2 e3 e4 e5 = rw (e5, e4, e3, e2, e1, lt-ltb before x lt)

  -- A kept checkpoint: one of its tests fails, or all but the last hold.
  module _ (p k x before : ℕ) (is : x ≡ index_in_of w p k) (was : before ≡ index_before w p k) (r : Bool)
      (answered : r ≡ (ltb before x && eqb (word w (stored_at p k + p)) (x - 1) && cause_sound (x - 1) (word w (cause_at_of p k)))) where
    in_place : r ≡ (ltb (index_before w p k) (index_in_of w p k) && eqb (word w (stored_at p k + p)) (index_in_of w p k - 1) && cause_sound (index_in_of w p k - 1) (word w (cause_at_of p k)))
    in_place = rw (is, was) at answered

    pub kept_unnumbered : not r ≡ true → false ≡ kept_fits w p k
    unfolding kept_fits kept_tests holds
    kept_unnumbered e = part_fails (kept_tests w p k) (test 0 and test 1 and test 2) (sym in_place ∙ not-true r e)

    pub kept_whole : not r ≡ false → (s : Bool) → s ≡ any_below 16 (λ f. eqb (pin_in w p f) x) → s ≡ kept_fits w p k
    unfolding kept_fits kept_tests holds asks all_below
    kept_whole n s e =
        let named : s ≡ any_below 16 (λ f. eqb (pin_in w p f) (index_in_of w p k)) = rw is at e in
        named ∙ second_left _ (any_below 16 (λ f. eqb (pin_in w p f) (index_in_of w p k))) (sym in_place ∙ not-false r n) ∙ conjunction (kept_tests w p k) (test 0 and test 1 and test 2 and test 3) refl

  -- The pins that none of the first k checkpoints has met: those that are met, or name none, count as 0.
  abbrev pub unmet_in : ℕ → ℕ → ℕ → ℕ
  unmet_in p k f = pick (pin_fits w p k f) 0 (pin_in w p f)

  pub unmet_none : (p : ℕ) (pins : List ℕ) → pins ≡ row_in w (pins_at_of p) → pins ≡ table 16 (λ f. pick (pin_fits w p 0 f) 0 (pin_in w p f))
  unfolding row_in pin_fits any_below
  unmet_none p pins e = e ∙ table_same 16 (λ f. pin_in w p f) (unmet_in p 0)
      (λ f lt. by_bool (eqb (pin_in w p f) 0) (λ z. rw z (eqb-true (pin_in w p f) 0 z)) (λ z. rw z))

  unmet_more : (p k x : ℕ) (pins unmet left : List ℕ) → pins ≡ row_in w (pins_at_of p) → unmet ≡ table 16 (λ f. pick (pin_fits w p k f) 0 (pin_in w p f)) → x ≡ index_in_of w p k
      → left ≡ table 16 (λ f. pick (eqb (get_or pins f 0) x) 0 (get_or unmet f 0)) → left ≡ table 16 (λ f. pick (pin_fits w p (k + 1) f) 0 (pin_in w p f))
  unfolding pin_fits any_below
  unmet_more p k x pins unmet left ep eu ex el = el ∙ rw (ep, eu, ex, add-one k)
      (table_same 16 (λ f. pick (eqb (get_or (row_in w (pins_at_of p)) f 0) (index_in_of w p k)) 0 (get_or (table 16 (unmet_in p k)) f 0)) (unmet_in p (suc k))
      (λ f lt. rw (row_word w (pins_at_of p) f lt, get_d_table 16 (unmet_in p k) f 0 lt)
      (one_more (eqb (pin_in w p f) 0) (eqb (pin_in w p f) (index_in_of w p k)) (any_below k (λ j. eqb (pin_in w p f) (index_in_of w p j))) (pin_in w p f))))
    where
      one_more : (z b a : Bool) (y : ℕ) → pick b 0 (pick (z || a) 0 y) ≡ pick (z || (b || a)) 0 y
      one_more true true a y = refl
      one_more true false a y = refl
      one_more false true a y = refl
      one_more false false a y = refl

  unmet_zero : (p k : ℕ) (unmet : List ℕ) → unmet ≡ table 16 (λ f. pick (pin_fits w p k f) 0 (pin_in w p f)) → all_below 16 (λ f. eqb (get_or unmet f 0) 0) ≡ all_below 16 (pin_fits w p k)
  unfolding pin_fits
  unmet_zero p k unmet e = rw e
      (all_same 16 (λ f. eqb (get_or (table 16 (unmet_in p k)) f 0) 0) (pin_fits w p k)
      (λ f lt. rw (get_d_table 16 (unmet_in p k) f 0 lt) (by_bool (pin_fits w p k f)
      (λ q. rw q)
      (λ q. rw q (or_none (eqb (pin_in w p f) 0) (any_below k (λ j. eqb (pin_in w p f) (index_in_of w p j))) q).0))))

  -- A walk along the kept checkpoints of process p, after k of them.
  pub record Walked (p kept_count_of_def : ℕ) (first : List ℕ) (k before : ℕ) (off unmet : List ℕ) : Type 0 where
    pub inside : k ≤ kept_count_of_def
    pub last : before ≡ index_before w p k
    pub passed : all_below k (kept_fits w p) ≡ true
    pub left : unmet ≡ table 16 (λ f. pick (pin_fits w p k f) 0 (pin_in w p f))
    pub rows : (f : ℕ) → f < 16 → eqb (get_or off f 0) 0 ≡ (eqb (get_or first f 0) 0 && all_below k (λ j. leb (word w (stored_at p j + f)) (most w f)))

  pub none_walked : (p kept_count_of_def : ℕ) (first pins : List ℕ) → pins ≡ row_in w (pins_at_of p) → Walked p kept_count_of_def first 0 0 first pins
  unfolding all_below index_before
  none_walked p kept_count_of_def first pins e = record { inside = omega arith; last = refl; passed = refl; left = unmet_none p pins e; rows = λ f lt. sym (and_true (eqb (get_or first f 0) 0)) }

  pub one_walked : (p kept_count_of_def : ℕ) (first : List ℕ) (k before x : ℕ) (pins off over unmet left : List ℕ) (v owns : List Interval) → Walked p kept_count_of_def first k before off unmet → k < kept_count_of_def → pins ≡ row_in w (pins_at_of p)
      → x ≡ index_in_of w p k → (r : Bool) → r ≡ kept_fits w p k → not r ≡ false → left ≡ table 16 (λ f. pick (eqb (get_or pins f 0) x) 0 (get_or unmet f 0))
      → v ≡ vector_in w (stored_at p k) → owns ≡ limits_in w → over ≡ table 16 (λ f. bit_or (get_or off f 0) ((entry v f).0 - (entry owns f).0)) → Walked p kept_count_of_def first (k + 1) x over left
  unfolding all_below index_before
  one_walked p kept_count_of_def first k before x pins off over unmet left v owns so_far lt ep ex r er n el ev eo em = record {
    inside = omega arith;
    last = rw (add-one k) ex;
    passed = rw (add-one k, sym er ∙ not-false r n) so_far.passed;
    left = unmet_more p k x pins unmet left ep so_far.left ex el;
    rows = λ f under. rw (add-one k) (over_at (stored_at p k) f off over v owns ev eo em under ∙ ap (λ b. b && leb (word w (stored_at p k + f)) (most w f)) (so_far.rows f under)
        ∙ and_group (eqb (get_or first f 0) 0) (all_below k (λ j. leb (word w (stored_at p j + f)) (most w f))) (leb (word w (stored_at p k + f)) (most w f))
        ∙ ap (λ b. eqb (get_or first f 0) 0 && b) (and_swap (all_below k (λ j. leb (word w (stored_at p j + f)) (most w f))) (leb (word w (stored_at p k + f)) (most w f))));
  }

  abbrev kept_rows : ℕ → ℕ → List ℕ → Bool
  kept_rows p kept_count_of_def first = (all_below 16 (λ f. eqb (get_or first f 0) 0) && all_below kept_count_of_def (λ k. row_within_of w (stored_at p k))) && all_below 16 (pin_fits w p kept_count_of_def)

  pub walk_stops : (p kept_count_of_def : ℕ) (first : List ℕ) (k : ℕ) → k < kept_count_of_def → (r : Bool) → r ≡ kept_fits w p k → not r ≡ true
      → false ≡ (all_below kept_count_of_def (kept_fits w p) && eqb (index_before w p kept_count_of_def) (own_in w p) && kept_rows p kept_count_of_def first)
  walk_stops p kept_count_of_def first k lt r er n = first_fails _ _ _ (all_stop kept_count_of_def (kept_fits w p) k lt (sym er ∙ not-true r n))

  module _ (p kept_count_of_def : ℕ) (first : List ℕ) (k before own : ℕ) (off unmet : List ℕ) (so_far : Walked p kept_count_of_def first k before off unmet) (ends : kept_count_of_def ≤ k) (is : own ≡ own_in w p) where
    all_walked : k ≡ kept_count_of_def
    all_walked = omega (arith, so_far.inside)

    pub walk_misses : (before ≡ own → ⊥) → false ≡ (all_below kept_count_of_def (kept_fits w p) && eqb (index_before w p kept_count_of_def) (own_in w p) && kept_rows p kept_count_of_def first)
    walk_misses ne = second_fails (all_below kept_count_of_def (kept_fits w p)) (eqb (index_before w p kept_count_of_def) (own_in w p)) _
        (ne_eqb _ _ (λ e. ne (so_far.last ∙ ap (λ (j : ℕ). index_before w p j) all_walked ∙ e ∙ sym is)))

    rows_zero : all_below 16 (λ f. eqb (get_or off f 0) 0) ≡ (all_below 16 (λ f. eqb (get_or first f 0) 0) && all_below kept_count_of_def (λ j. row_within_of w (stored_at p j)))
    unfolding row_within_of
    rows_zero =
        let row : ℕ → ℕ → Bool = λ j f. leb (word w (stored_at p j + f)) (most w f) in
        all_same 16 (λ f. eqb (get_or off f 0) 0) (λ f. eqb (get_or first f 0) 0 && all_below k (λ j. row j f)) so_far.rows
        ∙ all_both 16 (λ f. eqb (get_or first f 0) 0) (λ f. all_below k (λ j. row j f))
        ∙ ap (λ b. all_below 16 (λ f. eqb (get_or first f 0) 0) && b) (all_swap 16 k row ∙ ap (λ (i : ℕ). all_below i (λ j. all_below 16 (row j))) all_walked)

    pub walk_ends : before ≡ own → (r : Bool) → r ≡ all_below 16 (λ f. eqb (get_or off f 0) 0 && eqb (get_or unmet f 0) 0)
        → r ≡ (all_below kept_count_of_def (kept_fits w p) && eqb (index_before w p kept_count_of_def) (own_in w p) && kept_rows p kept_count_of_def first)
    walk_ends e r er =
        (er ∙ all_both 16 (λ f. eqb (get_or off f 0) 0) (λ f. eqb (get_or unmet f 0) 0)
        ∙ ap (λ b. b && all_below 16 (λ f. eqb (get_or unmet f 0) 0)) rows_zero
        ∙ ap (λ b. (all_below 16 (λ f. eqb (get_or first f 0) 0) && all_below kept_count_of_def (λ j. row_within_of w (stored_at p j))) && b) (unmet_zero p k unmet so_far.left ∙ ap (λ (j : ℕ). all_below 16 (pin_fits w p j)) all_walked))
        ∙ third_left (all_below kept_count_of_def (kept_fits w p)) (eqb (index_before w p kept_count_of_def) (own_in w p)) _
        (ap (λ (j : ℕ). all_below j (kept_fits w p)) (sym all_walked) ∙ so_far.passed)
        (eq-eqb _ _ (ap (λ (j : ℕ). index_before w p j) (sym all_walked) ∙ sym so_far.last ∙ e ∙ is))

  -- The numbers of a process.
  pub last_is_lem : (p oa last : ℕ) → oa ≡ part_at p → last ≡ word w (oa + p) - 1 + 1 → 1 ≤ own_in w p → last ≡ own_in w p
  last_is_lem p oa last e1 e2 some =
      let is : last ≡ own_in w p - 1 + 1 = rw e1 at e2 in
      is ∙ omega arith

  last_same : (x own : ℕ) → (leb 1 own && eqb x (own - 1 + 1)) ≡ (leb 1 own && eqb x own)
  last_same x own = by_bool (leb 1 own)
      (λ e. let some = leb-true 1 own e in let same : own - 1 + 1 ≡ own = omega arith in rw same)
      (λ e. rw e)

  pub numbers_are : (p n kept_count_of_def ha ba oa last pa : ℕ) → ha ≡ kept_count_at_of p → kept_count_of_def ≡ word w ha → ba ≡ blocks_at_of p → oa ≡ part_at p → last ≡ word w (oa + p) - 1 + 1
      → pa ≡ pins_at_of p → n ≡ count_of w
      → (leb 1 kept_count_of_def && leb kept_count_of_def n && leb 1 (word w ba) && leb 1 (word w (oa + p)) && eqb (word w (pa + p)) last) ≡ (counts_fit w p && leb 1 (own_in w p) && eqb (pin_in w p p) (own_in w p))
  unfolding counts_fit
  numbers_are p n kept_count_of_def ha ba oa last pa e1 e2 e3 e4 e5 e6 e7 =
      rw (e5, e4, e2, e1, e3, e6, e7)
      (and_group (counts_fit w p) (leb 1 (own_in w p)) (eqb (pin_in w p p) (own_in w p - 1 + 1))
      ∙ ap (λ b. counts_fit w p && b) (last_same (pin_in w p p) (own_in w p))
      ∙ sym (and_group (counts_fit w p) (leb 1 (own_in w p)) (eqb (pin_in w p p) (own_in w p))))

  -- A process: its numbers fail, or the rest decides.
  module _ (p : ℕ) where
    abbrev process_tests : List Bool
    process_tests = counts_fit w p ∷ part_tests w p

    whole_part : all_of process_tests ≡ (counts_fit w p && part_fits w p)
    unfolding part_fits every
    whole_part = refl

    module _ (a : Bool) (answered-a : a ≡ (counts_fit w p && leb 1 (own_in w p) && eqb (pin_in w p p) (own_in w p))) where
      pub numbers_fail : not a ≡ true → false ≡ (counts_fit w p && part_fits w p)
      unfolding part_tests holds
      numbers_fail n = part_fails process_tests (test 0 and test 1 and test 2) (sym answered-a ∙ not-true a n) ∙ whole_part

      pub process_whole : not a ≡ false → (first : List ℕ) → all_below 16 (λ f. eqb (get_or first f 0) 0) ≡ (row_within_of w (part_at p) && unused_pins w p) → (kept_count_of_def : ℕ) → kept_count_of_def ≡ word w (kept_count_at_of p) → (d : Bool)
          → d ≡ (all_below kept_count_of_def (kept_fits w p) && eqb (index_before w p kept_count_of_def) (own_in w p) && kept_rows p kept_count_of_def first) → d ≡ (counts_fit w p && part_fits w p)
      unfolding part_tests holds asks all_below
      process_whole na first ef kept_count_of_def eh d answered-d =
          rw (ef, eh) at answered-d
          ∙ second_left _ _ (sym answered-a ∙ not-false a na)
          ∙ conjunction process_tests ((test 0 and test 1 and test 2) and (test 5 and test 7 and (((test 3 and test 4) and test 6) and test 8))) refl
          ∙ whole_part

  counts_few : (p n : ℕ) → counts_fit w p ≡ true → n ≡ count_of w → n ≤ 16 → word w (kept_count_at_of p) ≤ 16
  unfolding counts_fit
  counts_few p n counts en few =
      let kept_count_of_def = leb-true (word w (kept_count_at_of p)) (count_of w) (and_right (leb 1 (word w (kept_count_at_of p))) (leb (word w (kept_count_at_of p)) (count_of w)) (and_left (leb 1 (word w (kept_count_at_of p)) && leb (word w (kept_count_at_of p)) (count_of w)) (leb 1 (word w (blocks_at_of p))) counts)) in
      omega arith

  pub numbers_few : (p n : ℕ) (a : Bool) → a ≡ (counts_fit w p && leb 1 (own_in w p) && eqb (pin_in w p p) (own_in w p)) → not a ≡ false → n ≡ count_of w → n ≤ 16 → word w (kept_count_at_of p) ≤ 16
  numbers_few p n a answered e en few =
      counts_few p n (and_left (counts_fit w p) (leb 1 (own_in w p)) (and_left (counts_fit w p && leb 1 (own_in w p)) (eqb (pin_in w p p) (own_in w p)) (sym answered ∙ not-false a e))) en few

  pub numbers_own : (p : ℕ) (a : Bool) → a ≡ (counts_fit w p && leb 1 (own_in w p) && eqb (pin_in w p p) (own_in w p)) → not a ≡ false → 1 ≤ own_in w p
  numbers_own p a answered e = leb-true 1 (own_in w p) (and_right (counts_fit w p) (leb 1 (own_in w p)) (and_left (counts_fit w p && leb 1 (own_in w p)) (eqb (pin_in w p p) (own_in w p)) (sym answered ∙ not-false a e)))

  pub kept_count_few : (p n : ℕ) (r : Bool) → r ≡ (counts_fit w p && part_fits w p) → not r ≡ false → n ≡ count_of w → n ≤ 16 → word w (kept_count_at_of p) ≤ 16
  kept_count_few p n r answered e en few = counts_few p n (and_left (counts_fit w p) (part_fits w p) (sym answered ∙ not-false r e)) en few

  -- All processes, one after the other, with the blocks that they keep.
  pub record Passed (n p blocks : ℕ) : Type 0 where
    pub inside : p ≤ n
    pub passed : all_below p (λ q. counts_fit w q && part_fits w q) ≡ true
    pub summed : blocks ≡ blocks_in w p
    pub bounded : blocks ≤ p * 1048560

  pub none_passed : (n : ℕ) → Passed n 0 0
  unfolding all_below blocks_in sum_below
  none_passed n = record { inside = omega arith; passed = refl; summed = refl; bounded = omega arith }

  pub one_passed : (n p blocks more : ℕ) → Passed n p blocks → p < n → (r : Bool) → r ≡ (counts_fit w p && part_fits w p) → not r ≡ false
      → more ≡ word w (kept_count_at_of p) * word w (blocks_at_of p) → more ≤ 1048560 → Passed n (p + 1) (blocks + more)
  unfolding all_below blocks_in sum_below
  one_passed n p blocks more so_far lt r answered e em most = record {
    inside = omega arith;
    passed = rw (add-one p, sym answered ∙ not-false r e) so_far.passed;
    summed = rw (add-one p, so_far.summed, em);
    bounded = omega (arith, so_far.bounded);
  }

  pub process_fails : (n p : ℕ) → p < n → (r : Bool) → r ≡ (counts_fit w p && part_fits w p) → not r ≡ true → false ≡ (all_below n (counts_fit w) && all_below n (part_fits w) && disk_fits w)
  process_fails n p lt r answered e =
      let both : ℕ → Bool = λ q. counts_fit w q && part_fits w q in
      rw (sym (all_both n (counts_fit w) (part_fits w)) ∙ sym (all_stop n both p lt (sym answered ∙ not-true r e)))

  pub all_passed : (n p blocks : ℕ) → Passed n p blocks → n ≤ p → n ≡ count_of w → (r : Bool) → r ≡ (eqb (wide4 w 4) (blocks + wide4 w 8) && leb (wide4 w 4) 1000000000000000)
      → r ≡ (all_below n (counts_fit w) && all_below n (part_fits w) && disk_fits w)
  unfolding disk_fits
  all_passed n p blocks so_far ends en r answered =
      let same : p ≡ n = omega (arith, so_far.inside) in
      let all : all_below n (λ q. counts_fit w q && part_fits w q) ≡ true = ap (λ (j : ℕ). all_below j (λ q. counts_fit w q && part_fits w q)) (sym same) ∙ so_far.passed in
      answered ∙ rw (sym (all_both n (counts_fit w) (part_fits w)) ∙ all, so_far.summed, same, en)

  -- The blocks that a process keeps.
  pub blocks_are : (p ha ba kept_count_of_def blocks : ℕ) → ha ≡ kept_count_at_of p → kept_count_of_def ≡ word w ha → ba ≡ blocks_at_of p → blocks ≡ word w ba → kept_count_of_def * blocks ≡ word w (kept_count_at_of p) * word w (blocks_at_of p)
  blocks_are p ha ba kept_count_of_def blocks e1 e2 e3 e4 = rw (e2, e1, e4, e3)

  -- The messages.
  pub ends_are : (k n sa ra sender receiver : ℕ) → sa ≡ sender_at_of k → sender ≡ word w sa → ra ≡ receiver_at_of k → receiver ≡ word w ra
      → (ltb sender n && ltb receiver n && not (eqb sender receiver)) ≡ (ltb (word w (sender_at_of k)) n && ltb (word w (receiver_at_of k)) n && not (eqb (word w (sender_at_of k)) (word w (receiver_at_of k))))
  ends_are k n sa ra sender receiver e1 e2 e3 e4 = rw (e2, e1, e4, e3)

  module _ (k n number before : ℕ) (counted : n ≡ count_of w) (is : number ≡ number_in w k) (was : before ≡ number_before w k) where
    pub order_fails : number ≤ before → false ≡ all_of (message_tests w k)
    unfolding message_tests holds
    order_fails le = part_fails (message_tests w k) (test 0) (le-ltb (number_before w k) (number_in w k) (omega arith))

    pub message_whole : before < number → (a : Bool) → a ≡ (ltb (word w (sender_at_of k)) n && ltb (word w (receiver_at_of k)) n && not (eqb (word w (sender_at_of k)) (word w (receiver_at_of k)))) → a ≡ all_of (message_tests w k)
    unfolding message_tests holds asks all_below
    message_whole lt a answered =
        rw counted at answered
        ∙ second_left _ _ (lt-ltb (number_before w k) (number_in w k) (omega arith))
        ∙ conjunction (message_tests w k) (test 0 and (test 1 and test 2 and test 3)) refl

  -- A walk along the places of messages, after k of them.
  pub record Read (end k before count : ℕ) (over : List ℕ) : Type 0 where
    pub inside : k ≤ end
    pub last : before ≡ number_before w k
    pub passed : all_below k (message_fits w) ≡ true
    pub counted : count ≡ count_below k (λ k. not (eqb (number_in w k) 0))
    pub few : count ≤ k
    pub rows : (f : ℕ) → f < 16 → eqb (get_or over f 0) 0 ≡ all_below k (λ j. eqb (number_in w j) 0 || leb (word w (carried_at j + f)) (most w f))

  pub none_read : (end : ℕ) → Read end 0 0 0 (replicate 16 0)
  unfolding all_below number_before count_below
  none_read end = record { inside = omega arith; last = refl; passed = refl; counted = refl; few = omega arith; rows = λ f lt. ap (λ (x : ℕ). eqb x 0) (get_or-replicate 16 f 0 0 lt) }

  module _ (end k before count number : ℕ) (over : List ℕ) (so_far : Read end k before count over) (lt : k < end) (is : number ≡ number_in w k) where
    pub one_read : (number ≡ 0 → ⊥) → (r : Bool) → r ≡ all_of (message_tests w k) → not r ≡ false → (more : List ℕ) (v owns : List Interval) → v ≡ vector_in w (carried_at k) → owns ≡ limits_in w
        → more ≡ table 16 (λ f. bit_or (get_or over f 0) ((entry v f).0 - (entry owns f).0)) → Read end (k + 1) number (count + 1) more
    unfolding all_below number_before count_below message_fits
    one_read ne r answered e more v owns ev eo em =
        let some : eqb (number_in w k) 0 ≡ false = ne_eqb (number_in w k) 0 (λ z. ne (is ∙ z)) in
        record {
          inside = omega arith;
          last = rw (add-one k, some) is;
          passed = rw (add-one k, some, sym answered ∙ not-false r e) so_far.passed;
          counted = rw (add-one k, some, so_far.counted);
          few = omega (arith, so_far.few);
          rows = λ f under. rw (add-one k, some) (over_at (carried_at k) f over more v owns ev eo em under ∙ ap (λ b. b && leb (word w (carried_at k + f)) (most w f)) (so_far.rows f under)
              ∙ and_swap (all_below k (λ j. eqb (number_in w j) 0 || leb (word w (carried_at j + f)) (most w f))) (leb (word w (carried_at k + f)) (most w f)));
        }

    pub none_there : number ≡ 0 → Read end (k + 1) before count over
    unfolding all_below number_before count_below message_fits
    none_there z =
        let none : eqb (number_in w k) 0 ≡ true = eq-eqb (number_in w k) 0 (sym is ∙ z) in
        record {
          inside = omega arith;
          last = rw (add-one k, none) so_far.last;
          passed = rw (add-one k, none) so_far.passed;
          counted = rw (add-one k, none) (so_far.counted ∙ omega arith);
          few = omega (arith, so_far.few);
          rows = λ f under. rw (add-one k, none) (so_far.rows f under);
        }

    pub read_fails : (number ≡ 0 → ⊥) → (r : Bool) → r ≡ all_of (message_tests w k) → not r ≡ true
        → false ≡ (all_below end (message_fits w) && all_below end (carried_fits w) && (eqb (count_below end (λ k. not (eqb (number_in w k) 0))) (word w 1) && leb (number_before w end) (wide2 w 2)))
    unfolding message_fits
    read_fails ne r answered e =
        let some : eqb (number_in w k) 0 ≡ false = ne_eqb (number_in w k) 0 (λ z. ne (is ∙ z)) in
        first_fails _ _ _ (all_stop end (message_fits w) k lt (rw some (sym answered ∙ not-true r e)))

  module _ (end k before count last : ℕ) (over : List ℕ) (so_far : Read end k before count over) (ends : end ≤ k) (el : last ≡ wide2 w 2) where
    carried_read : (r : Bool) → r ≡ all_below 16 (λ f. eqb (get_or over f 0) 0) → r ≡ all_below end (carried_fits w)
    unfolding carried_fits row_within_of
    carried_read r er =
        let same : k ≡ end = omega (arith, so_far.inside) in
        let row : ℕ → ℕ → Bool = λ j f. leb (word w (carried_at j + f)) (most w f) in
        let none : ℕ → Bool = λ j. eqb (number_in w j) 0 in
        er
        ∙ all_same 16 (λ f. eqb (get_or over f 0) 0) (λ f. all_below k (λ j. none j || row j f)) so_far.rows
        ∙ all_swap 16 k (λ j f. none j || row j f)
        ∙ all_same k (λ j. all_below 16 (λ f. none j || row j f)) (λ j. none j || all_below 16 (row j)) (λ j lt. or_all 16 (none j) (row j))
        ∙ ap (λ (i : ℕ). all_below i (λ j. none j || all_below 16 (row j))) same

    pub all_read : (r : Bool) → r ≡ all_below 16 (λ f. eqb (get_or over f 0) 0)
        → (r && (eqb count (word w 1) && leb before last)) ≡ (all_below end (message_fits w) && all_below end (carried_fits w) && (eqb (count_below end (λ k. not (eqb (number_in w k) 0))) (word w 1) && leb (number_before w end) (wide2 w 2)))
    all_read r er =
        let same : k ≡ end = omega (arith, so_far.inside) in
        let all : all_below end (message_fits w) ≡ true = ap (λ (j : ℕ). all_below j (message_fits w)) (sym same) ∙ so_far.passed in
        rw (carried_read r er, so_far.counted, so_far.last, same, el, all)

  -- All tests of the messages, and of the words.
  abbrev places_read : ℕ → Bool
  places_read end = all_below end (message_fits w) && all_below end (carried_fits w) && (eqb (count_below end (λ k. not (eqb (number_in w k) 0))) (word w 1) && leb (number_before w end) (wide2 w 2))

  module _ (end last : ℕ) (is-end : end ≡ end_of w) (is_last : last ≡ wide2 w 2) where
    pub end_far : 64 < end → false ≡ all_of (messages_tests w)
    unfolding messages_tests holds
    end_far lt = part_fails (messages_tests w) (test 0) (lt-leb (end_of w) 64 (omega arith))

    pub last_far : 1000000 < last → false ≡ all_of (messages_tests w)
    unfolding messages_tests holds
    last_far lt = part_fails (messages_tests w) (test 6) (lt-leb (wide2 w 2) 1000000 (rw is_last at lt))

    module _ (a : Bool) (answered : a ≡ (eqb end 0 || not (eqb (number_in w (end - 1)) 0))) where
      pub end_off : not a ≡ true → false ≡ all_of (messages_tests w)
      unfolding messages_tests holds
      end_off e = part_fails (messages_tests w) (test 1) (rw is-end at (sym answered ∙ not-true a e))

      pub messages_whole : end ≤ 64 → last ≤ 1000000 → not a ≡ false → (r : Bool) → r ≡ places_read end → r ≡ all_of (messages_tests w)
      unfolding messages_tests holds asks all_below
      messages_whole le few e r er =
          let ended : (eqb (end_of w) 0 || not (eqb (number_in w (end_of w - 1)) 0)) ≡ true = rw is-end at (sym answered ∙ not-false a e) in
          let short : leb (end_of w) 64 ≡ true = le-leb (end_of w) 64 (omega arith) in
          let low : leb (wide2 w 2) 1000000 ≡ true = le-leb (wide2 w 2) 1000000 (rw is_last at few) in
          rw is-end at er ∙ fourth_left _ _ _ (places_read (end_of w)) short ended low ∙ conjunction (messages_tests w) (test 0 and test 1 and test 6 and (test 2 and test 3 and (test 4 and test 5))) refl

  -- The number of a message by its two words.
  pub number_is : (k la ha low high : ℕ) → la ≡ low_at k → low ≡ word w la → ha ≡ high_at k → high ≡ word w ha → low + 65536 * high ≡ number_in w k
  number_is k la ha low high e1 e2 e3 e4 = rw (e2, e1, e4, e3)

  -- All tests of the words.
  module _ (small : (k : ℕ) → word w k ≤ 65535) where
    pub size_off : (length w ≡ 6464 → ⊥) → false ≡ sound (run_of w)
    unfolding sound_in sound_tests holds
    size_off ne = part_fails (sound_tests w) (test 0) (ne_eqb (length w) state_size ne) ∙ test_is_sound w small

    module _ (n : ℕ) (is : n ≡ count_of w) where
      pub count_low : n < 1 → false ≡ sound (run_of w)
      unfolding sound_in sound_tests holds
      count_low lt = part_fails (sound_tests w) (test 1) (lt-leb 1 (count_of w) (omega arith)) ∙ test_is_sound w small

      pub count_high : 16 < n → false ≡ sound (run_of w)
      unfolding sound_in sound_tests holds
      count_high lt = part_fails (sound_tests w) (test 2) (lt-leb (count_of w) 16 (omega arith)) ∙ test_is_sound w small

      module _ (a : Bool) (answered : a ≡ (all_below n (counts_fit w) && all_below n (part_fits w) && disk_fits w)) where
        pub processes_off : not a ≡ true → false ≡ sound (run_of w)
        unfolding sound_in sound_tests holds
        processes_off e = part_fails (sound_tests w) (test 3 and test 4 and test 5) (rw is at (sym answered ∙ not-true a e)) ∙ test_is_sound w small

        pub words_whole : length w ≡ 6464 → 1 ≤ n → n ≤ 16 → not a ≡ false → (r : Bool) → r ≡ all_of (messages_tests w) → r ≡ sound (run_of w)
        unfolding sound_in sound_tests holds asks all_below
        words_whole sized low high e r er =
            let processes : (all_below (count_of w) (counts_fit w) && all_below (count_of w) (part_fits w) && disk_fits w) ≡ true = rw is at (sym answered ∙ not-false a e) in
            let long : eqb (length w) state_size ≡ true = eq-eqb (length w) state_size sized in
            let some : leb 1 (count_of w) ≡ true = le-leb 1 (count_of w) (omega arith) in
            let few : leb (count_of w) most_processes ≡ true = le-leb (count_of w) most_processes (omega arith) in
            er
            ∙ fifth_left _ _ _ _ (all_of (messages_tests w)) long some few processes
            ∙ conjunction (sound_tests w) (test 0 and test 1 and test 2 and (test 3 and test 4 and test 5) and test 6) refl
            ∙ test_is_sound w small

-- Written against what is kept and deleted. The difference is what is kept exactly if the sum is what was written.
same_sum : (written deleted kept : ℕ) → deleted ≤ written → eqb (written - deleted) kept ≡ eqb written (kept + deleted)
same_sum written deleted kept h = same_test (eqb (written - deleted) kept) (eqb written (kept + deleted))
    (λ e. eq-eqb written (kept + deleted) (omega (arith, eqb-true (written - deleted) kept e)))
    (λ e. eq-eqb (written - deleted) kept (omega (arith, eqb-true written (kept + deleted) e)))

pub past : (written kept deleted : ℕ) → 1000000000000000 < written → false ≡ (eqb written (kept + deleted) && leb written 1000000000000000)
past written kept deleted h = rw (lt-leb written 1000000000000000 h) (by_bool (eqb written (kept + deleted)) (λ e. rw e) (λ e. rw e))

pub too_few : (written kept deleted : ℕ) → written < deleted → false ≡ (eqb written (kept + deleted) && leb written 1000000000000000)
too_few written kept deleted h = rw (ne_eqb written (kept + deleted) (omega arith))

pub balanced : (written kept deleted : ℕ) → written ≤ 1000000000000000 → deleted ≤ written → eqb (written - deleted) kept ≡ (eqb written (kept + deleted) && leb written 1000000000000000)
balanced written kept deleted h less = rw (le-leb written 1000000000000000 h, same_sum written deleted kept less) (by_bool (eqb written (kept + deleted)) (λ e. rw e) (λ e. rw e))

pub balanced_are : (written deleted W D kept : ℕ) → written ≡ W → deleted ≡ D → written ≤ 1000000000000000 → deleted ≤ written
    → eqb (written - deleted) kept ≡ (eqb W (kept + D) && leb W 1000000000000000)
balanced_are written deleted W D kept e d h less = rw (← e, ← d) (balanced written kept deleted h less)

-- At most 16 checkpoints of at most 65,535 blocks each.
pub product_few : (a b : ℕ) → a ≤ 16 → b ≤ 65535 → a * b ≤ 1048560
product_few a b p q = omega (arith, mul-le-mul p q)
