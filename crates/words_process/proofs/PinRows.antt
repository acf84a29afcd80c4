-- Rows of pins as words: which checkpoints they name, and the pins after a checkpoint and a receipt.
-- Assumes nothing.
use Rattle.std.specs.Prelude.{◌≡◌, ◌||◌, ◌+◌, ◌-◌, ◌≤◌, ◌<◌, None, Some}
use Rattle.laws.specs.Basics.{refl, sym, ◌∙◌, ap, Bool, true, false, List, ℕ, zero, suc, arith, eqb, length, get_or, set, get_or-set_same, get_or-set_other, eq-eqb, ne_eqb, eqb-true, pick, by_bool, by_eq}
use lib.Pow.{pow_pos}
use Rattle.laws.specs.{Bits.bits_of, Bits.bit_past, Bits.bits_at, Elements.same_test, Search.any_below, Select.some_table, Tests.some_of}
use Rattle.laws.specs.{Tables.length_table, Tables.get_d_table, Tables.table_same, Tables.table_set, Update.upd, Update.upd_same, Update.upd_other}
use Rattle.model.specs.Shapes.{Pin}
use Rattle.model.specs.declared.{Interval.Interval, CheckpointIndex.CheckpointIndex}
use Rattle.model.specs.{Words.entry, Words.below, Words.names, Words.in_set, Steps.taken_pin, Steps.taken_pins, Steps.risen}
use Rattle.words_process.specs.{receipts.Receipt.pins_first, Pins.pin_row, Pins.moved_row, Pins.risen_or_own}
use Rattle.words.specs.Layout.{index_of_def, pin_of_def, row_in, pins_in}
use Rattle.words.proofs.{Reading.pin_back, Same.row_word}

-- A pin names a checkpoint exactly if its word is the checkpoint's.
pub names_word : (x y : ℕ) → 1 ≤ y → names (pin_of_def x) (index_of_def y) ≡ eqb x y
unfolding pin_of_def
names_word zero y some = sym (ne_eqb 0 y (λ e. omega arith))
names_word (suc x) y some = same_test (eqb x (y - 1)) (eqb (suc x) y)
    (λ e. eq-eqb (suc x) y (omega (arith, eqb-true x (y - 1) e)))
    (λ e. eq-eqb x (y - 1) (omega (arith, eqb-true (suc x) y e)))

any_same : (n : ℕ) (t u : ℕ → Bool) → ((k : ℕ) → t k ≡ u k) → any_below n t ≡ any_below n u
unfolding any_below
any_same zero t u e = refl
any_same (suc n) t u e = rw (e n, any_same n t u e)

pub pinned_row : (r : List ℕ) (y : ℕ) → 1 ≤ y → some_of (λ pin. names pin (index_of_def y)) (pin_row r) ≡ any_below 16 (λ f. eqb (get_or r f 0) y)
unfolding pin_row
pinned_row r y some = some_table (λ pin. names pin (index_of_def y)) 16 (λ f. pin_of_def (get_or r f 0)) ∙ any_same 16 _ _ (λ f. names_word (get_or r f 0) y some)

pub row_length : (r : List ℕ) → length (pin_row r) ≡ 16
unfolding pin_row
row_length r = length_table 16 (λ f. pin_of_def (get_or r f 0))

pub row_pin : (r : List ℕ) (f : ℕ) → f < 16 → get_or (pin_row r) f None ≡ pin_of_def (get_or r f 0)
unfolding pin_row
row_pin r f lt = get_d_table 16 (λ f. pin_of_def (get_or r f 0)) f None lt

-- The pins of words are those of their row.
pub pins_row : (w : List ℕ) (at : ℕ) → pins_in w at ≡ pin_row (row_in w at)
unfolding pins_in pin_row
pins_row w at = table_same 16 _ _ (λ f lt. ap pin_of_def (sym (row_word w at f lt)))

module _ (r : List ℕ) (i x : ℕ) (lt : i < 16) where
  moved_pin_lem : (moves : ℕ → Bool) (f : ℕ) → f < 16 → get_or (moved_row moves r x) f 0 ≡ pick (moves f) x (get_or r f 0)
  unfolding moved_row
  moved_pin_lem moves f less = get_d_table 16 (λ f. pick (moves f) x (get_or r f 0)) f 0 less

  -- The pins once the own one has become the word x, and where x is that of an index.
  pub own_moved : pin_row (moved_row (risen_or_own 0 i) r x) ≡ set (pin_row r) i (pin_of_def x)
  unfolding pin_row risen_or_own
  own_moved =
      table_same 16 _ (upd (λ f. pin_of_def (get_or r f 0)) i (pin_of_def x))
      (λ f less. ap pin_of_def (moved_pin_lem (λ k. in_set 0 k || eqb k i) f less) ∙ by_eq f i
      (λ e. rw e (rw (eq-eqb i i refl) (by_bool (in_set 0 i) (λ q. rw q (sym (upd_same (λ f. pin_of_def (get_or r f 0)) i (pin_of_def x)))) (λ q. rw q (sym (upd_same (λ f. pin_of_def (get_or r f 0)) i (pin_of_def x)))))))
      (λ ne. rw (ne_eqb f i ne, none f) (sym (upd_other (λ f. pin_of_def (get_or r f 0)) i (pin_of_def x) f ne))))
      ∙ sym (table_set 16 (λ f. pin_of_def (get_or r f 0)) i (pin_of_def x))
    where
      none : (f : ℕ) → in_set 0 f ≡ false
      none f = bit_past 0 f (pow_pos f)

  -- The pins after a receipt: those of the entries that rise become the own pin, which is that of the checkpoint stored first, if one is.
  module _ (own carried : List Interval) (stores : Bool) (index : CheckpointIndex) (is : x ≡ pick stores (index.0 + 1) (get_or r i 0)) where
    first : (f : ℕ) → f < 16 → get_or (pins_first stores i index (pin_row r)) f None ≡ pick (eqb f i) (pin_of_def x) (pin_of_def (get_or r f 0))
    unfolding pins_first
    first f less = by_bool stores
        (λ e. rw e (by_eq f i
        (λ q. rw (q, eq-eqb i i refl) (get_or-set_same (pin_row r) i (Some index) None (rw row_length lt) ∙ sym (ap pin_of_def (rw e at is) ∙ pin_back index)))
        (λ ne. rw (ne_eqb f i ne) (get_or-set_other (pin_row r) i f (Some index) None ne ∙ row_pin r f less))))
        (λ e. rw e (row_pin r f less ∙ by_eq f i
        (λ q. rw (q, eq-eqb i i refl) (ap pin_of_def (sym (rw e at is))))
        (λ ne. rw (ne_eqb f i ne))))

    choose : (a b : Bool) (y : Pin) → pick a (pin_of_def x) (pick b (pin_of_def x) y) ≡ pick (a || b) (pin_of_def x) y
    choose true b y = refl
    choose false b y = refl

    pub receipt_pins : pin_row (moved_row (risen_or_own (risen own carried) i) r x) ≡ taken_pins i own carried (pins_first stores i index (pin_row r))
    unfolding pin_row risen_or_own taken_pins taken_pin risen
    receipt_pins = table_same 16 _ _ (λ f less.
        ap pin_of_def (moved_pin_lem (λ k. in_set (bits_of 16 (λ g. below (entry own g) (entry carried g))) k || eqb k i) f less)
        ∙ ap (λ (b : Bool). pin_of_def (pick (b || eqb f i) x (get_or r f 0))) (bits_at (λ g. below (entry own g) (entry carried g)) 16 f less)
        ∙ pick_out (below (entry own f) (entry carried f) || eqb f i) x (get_or r f 0)
        ∙ sym (choose (below (entry own f) (entry carried f)) (eqb f i) (pin_of_def (get_or r f 0)))
        ∙ sym (ap (λ (y : Pin). pick (below (entry own f) (entry carried f)) y (get_or (pins_first stores i index (pin_row r)) f None)) (first i lt ∙ ap (λ (b : Bool). pick b (pin_of_def x) (pin_of_def (get_or r i 0))) (eq-eqb i i refl))
        ∙ ap (λ (y : Pin). pick (below (entry own f) (entry carried f)) (pin_of_def x) y) (first f less)))
      where
        pick_out : (b : Bool) (x y : ℕ) → pin_of_def (pick b x y) ≡ pick b (pin_of_def x) (pin_of_def y)
        pick_out true x y = refl
        pick_out false x y = refl
