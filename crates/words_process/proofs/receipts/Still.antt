-- Rows that nothing carried is newer than: taking the carried vector in changes no entry and moves no pin, so no checkpoint of a sound state is deleted.
-- Assumes nothing.
use Rattle.std.specs.Prelude.{◌≡◌, ◌<◌, None}
use Rattle.laws.specs.Basics.{sym, ap, Bool, true, false, List, [], ℕ, length, get_or, pick}
use Rattle.laws.specs.{Search.any_none, Select.all_chosen, Select.none_chosen, Tables.table_is, Tests.every}
use Rattle.model.specs.Shapes.{Pin}
use Rattle.model.specs.declared.{Interval.Interval, Checkpoint.Checkpoint, Run.Run}
use Rattle.model.specs.{Words.entry, Words.below, Words.is_pinned, Words.Process, Words.process, Sound.sound, laws.Sound.sound_state}
use Rattle.model.specs.Steps.{settled, gone, newer, taken_entry, taken_vector, taken_pin, taken_pins, taken_in}

-- No entry is below the carried one.
abbrev pub NoneBelow : List Interval → List Interval → Type 0
NoneBelow own carried = (f : ℕ) → f < 16 → below (entry own f) (entry carried f) ≡ false

pub none_newer : (own carried : List Interval) → newer own carried ≡ false → NoneBelow own carried
unfolding newer
none_newer own carried e = any_none 16 (λ f. below (entry own f) (entry carried f)) e

module _ (own carried : List Interval) (still : NoneBelow own carried) where
  pub vector_still : length own ≡ 16 → taken_vector own carried ≡ own
  unfolding taken_vector taken_entry
  vector_still long = sym (table_is (record { 0 = 0 }) own 16 (taken_entry own carried) long
      (λ f lt. sym (ap (λ (b : Bool). pick b (entry carried f) (entry own f)) (still f lt))))

  pub pins_still : (i : ℕ) (pins : List Pin) → length pins ≡ 16 → taken_pins i own carried pins ≡ pins
  unfolding taken_pins taken_pin
  pins_still i pins long = sym (table_is None pins 16 (taken_pin i own carried pins) long
      (λ f lt. sym (ap (λ (b : Bool). pick b (get_or pins i None) (get_or pins f None)) (still f lt))))

-- So a part that nothing carried is newer than is as it was.
pub taken_still : (i : ℕ) (carried : List Interval) (P : Process) → length P.vector ≡ 16 → length P.pins ≡ 16 → NoneBelow P.vector carried
    → taken_in i carried P ≡ P
unfolding taken_in
taken_still i carried P vector pins still = λ j. record {
  vector = vector_still P.vector carried still vector j;
  pins = pins_still P.vector carried still i P.pins pins j;
  mark = P.mark;
  kept = P.kept;
}

-- "every kept one is pinned": where the pins have not moved, nothing is deleted.
module _ (s : Run) (h : sound s ≡ true) (i : ℕ) (lt : i < s.count) where
  all_kept_pinned : every (is_pinned (process s i).pins) (process s i).kept ≡ true
  all_kept_pinned = ((sound_state s h).processes i lt).kept_pinned

  pub settled_still : settled (process s i) ≡ process s i
  unfolding settled
  settled_still = ap (λ (l : List Checkpoint). record { vector = (process s i).vector; pins = (process s i).pins; mark = (process s i).mark; kept = l })
      (all_chosen (is_pinned (process s i).pins) (process s i).kept all_kept_pinned)

  pub gone_still : gone (process s i) ≡ []
  unfolding gone
  gone_still = none_chosen (is_pinned (process s i).pins) (process s i).kept all_kept_pinned
