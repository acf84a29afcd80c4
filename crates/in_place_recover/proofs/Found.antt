-- The search for the checkpoint that a pin moves to, and what a row of known pins holds.
-- Assumes nothing.
use Rattle.std.specs.Prelude.{◌≡◌, ◌∷◌, ◌+◌, ◌≤◌, ◌<◌, None, Some}
use Rattle.laws.specs.Basics.{refl, sym, ◌∙◌, ap, Bool, true, false, List, [], append-nil, ℕ, zero, suc, arith, eqb, length, get_or, get_or-replicate, get_or-set_same, pick, by_bool, by_eq}
use Rattle.laws.specs.{Lists.select, Lists.last_of, Lists.table, Select.select_append, Tables.length_table, Tables.get_d_table, Truth.never_both}
use Rattle.model.specs.Shapes.{Pin}
use Rattle.model.specs.declared.{Interval.Interval, Checkpoint.Checkpoint}
use Rattle.model.specs.{Words.entry, Words.below, Sound.is_nothing_of, Steps.advanced, Steps.latest_pin}
use Rattle.words.specs.Layout.{word, index_at_of, stored_at, pin_of_def, vector_in, checkpoint_in}
use Rattle.words.proofs.Reading.{pin_some}
use Rattle.words_line.specs.Restored.{known_row, found_row, found_in_of}
use Rattle.words_line.proofs.LineRule.{last_more, last_less}

-- What is selected of a table whose elements pass alike, and of one whose later elements fail.
module _ {A : Type 0} (g : ℕ → A) where
  pub select_alike : (t u : A → Bool) (n : ℕ) → ((k : ℕ) → k < n → t (g k) ≡ u (g k)) → select t (table n g) ≡ select u (table n g)
  unfolding table select
  select_alike t u zero h = refl
  select_alike t u (suc n) h = select_append t (table n g) (g n ∷ [])
      ∙ rw (select_alike t u n (λ k lt. h k (omega arith)), h n (omega arith)) (sym (select_append u (table n g) (g n ∷ [])))

  pub select_short : (t : A → Bool) (m n : ℕ) → m ≤ n → ((k : ℕ) → m ≤ k → k < n → t (g k) ≡ false) → select t (table n g) ≡ select t (table m g)
  unfolding table select
  select_short t m zero le h = let z : m ≡ 0 = omega arith in rw z
  select_short t m (suc n) le h = by_eq m (suc n)
      (λ e. rw e)
      (λ ne. select_append t (table n g) (g n ∷ []) ∙ rw (h n (omega arith) (omega arith)) (append-nil (select t (table n g))) ∙ select_short t m n (omega arith) (λ k a b. h k a (omega arith)))

-- The search for the latest checkpoint with entry f below own(f), among the first ones of process p.
module _ (w : List ℕ) (owns : List Interval) (p f : ℕ) (lt : f < 16) where
  found_more : (k : ℕ) → get_or (found_in_of w owns p (suc k)) f 0 ≡ pick (below (entry (vector_in w (stored_at p k)) f) (entry owns f)) (word w (index_at_of p k)) (get_or (found_in_of w owns p k) f 0)
  unfolding found_in_of found_row
  found_more k = get_d_table 16 _ f 0 lt

  found_none : get_or (found_in_of w owns p 0) f 0 ≡ 0
  unfolding found_in_of
  found_none = let none : ℕ = 0 in get_or-replicate 16 f none 0 lt

  abbrev is_below : Checkpoint → Bool
  is_below c = below (entry c.vector f) (entry owns f)

  none_found : pin_of_def 0 ≡ latest_pin (last_of (select is_below (table 0 (checkpoint_in w p))))
  unfolding pin_of_def latest_pin last_of select table
  none_found = refl

  later_found : (k : ℕ) → 1 ≤ word w (index_at_of p k) → below (entry (vector_in w (stored_at p k)) f) (entry owns f) ≡ true
      → pin_of_def (word w (index_at_of p k)) ≡ latest_pin (last_of (select is_below (table (suc k) (checkpoint_in w p))))
  unfolding latest_pin checkpoint_in
  later_found k used e = pin_some (word w (index_at_of p k)) used ∙ sym (ap latest_pin (last_more is_below k (checkpoint_in w p) e))

  none_later : (k : ℕ) → below (entry (vector_in w (stored_at p k)) f) (entry owns f) ≡ false
      → last_of (select is_below (table (suc k) (checkpoint_in w p))) ≡ last_of (select is_below (table k (checkpoint_in w p)))
  unfolding checkpoint_in
  none_later k e = last_less is_below k (checkpoint_in w p) e

  -- It is what Steps moves the pin to.
  pub found_is : (k : ℕ) → ((j : ℕ) → j < k → 1 ≤ word w (index_at_of p j)) → pin_of_def (get_or (found_in_of w owns p k) f 0) ≡ latest_pin (last_of (select is_below (table k (checkpoint_in w p))))
  found_is zero used = ap pin_of_def found_none ∙ none_found
  found_is (suc k) used = by_bool (below (entry (vector_in w (stored_at p k)) f) (entry owns f))
      (λ e. ap pin_of_def (found_more k ∙ rw e) ∙ later_found k (used k (omega arith)) e)
      (λ e. ap pin_of_def (found_more k ∙ rw e) ∙ found_is k (λ j less. used j (omega arith)) ∙ sym (ap latest_pin (none_later k e)))

  -- It is a word of one of these.
  pub found_under : (k y : ℕ) → 1 ≤ y → ((j : ℕ) → j < k → word w (index_at_of p j) < y) → get_or (found_in_of w owns p k) f 0 < y
  found_under zero y one less = omega (arith, found_none)
  found_under (suc k) y one less = by_bool (below (entry (vector_in w (stored_at p k)) f) (entry owns f))
      (λ e. let z : get_or (found_in_of w owns p (suc k)) f 0 ≡ word w (index_at_of p k) = found_more k ∙ rw e in omega (arith, less k (omega arith)))
      (λ e. let z : get_or (found_in_of w owns p (suc k)) f 0 ≡ get_or (found_in_of w owns p k) f 0 = found_more k ∙ rw e in omega (arith, found_under k y one (λ j a. less j (omega arith))))

pub known_at_lem : (v owns : List Interval) (r : List ℕ) (f : ℕ) → f < 16 → get_or (known_row v owns r) f 0 ≡ pick (eqb (entry v f).0 (entry owns f).0) (get_or r f 0) 0
unfolding known_row
known_at_lem v owns r f lt = get_d_table 16 _ f 0 lt

pub known_length : (v owns : List Interval) (r : List ℕ) → length (known_row v owns r) ≡ 16
unfolding known_row
known_length v owns r = length_table 16 _

pub pick_least : (b : Bool) (x y : ℕ) → x < y → pick b x 0 < y
pick_least true x y less = less
pick_least false x y less = omega arith

pub pin_pick : (b : Bool) (x : ℕ) → pin_of_def (pick b x 0) ≡ pick b (pin_of_def x) None
unfolding pin_of_def
pin_pick true x = refl
pin_pick false x = refl

pub nothing_is : (pin : Pin) → is_nothing_of pin ≡ true → pin ≡ None
unfolding is_nothing_of
nothing_is None e = refl
nothing_is (Some a) e = never_both false e refl

pub advanced_own : (p : ℕ) (v : List Interval) → p < length v → entry (advanced p v) p ≡ record { 0 = (entry v p).0 + 1 }
unfolding advanced
advanced_own p v lt = get_or-set_same v p (record { 0 = (entry v p).0 + 1 }) (record { 0 = 0 }) lt
