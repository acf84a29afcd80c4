-- Three numbers of each element, written one element after the other.
-- Assumes nothing.
use Rattle.std.specs.Prelude.{◌≡◌, ◌∷◌, ◌++◌, ◌+◌, ◌*◌, ◌≤◌, ◌<◌}
use Rattle.laws.specs.Basics.{refl, sym, ◌∙◌, ap, Bool, List, [], append-nil, ℕ, arith, length, length-append, sets, pick, by_bool}
use native.Mathlib.Numerals.{add-one}
use Rattle.laws.specs.{Lists.select, Lists.table, Select.select_append, Select.select_one, Tables.length_table, Written.sets_after}
use Rattle.model.specs.declared.{Checkpoint.Checkpoint, Message.Message}
use Rattle.library_readers.specs.{Readings.stored_numbers, Readings.sent_numbers, Written.three_stored, Written.three_of}

pub stored_more : (l : List Checkpoint) (c : Checkpoint) → stored_numbers (l ++ (c ∷ [])) ≡ stored_numbers l ++ (c.index.0 ∷ c.cause ∷ c.blocks ∷ [])
unfolding stored_numbers
stored_more [] c = refl
stored_more (d ∷ l) c = ap (λ (r : List ℕ). d.index.0 ∷ d.cause ∷ d.blocks ∷ r) (stored_more l c)

pub stored_length : (l : List Checkpoint) → length (stored_numbers l) ≡ 3 * length l
unfolding stored_numbers
stored_length [] = refl
stored_length (d ∷ l) = omega (arith, stored_length l)

pub sent_more : (l : List Message) (x : Message) → sent_numbers (l ++ (x ∷ [])) ≡ sent_numbers l ++ (x.number ∷ x.sender ∷ x.receiver ∷ [])
unfolding sent_numbers
sent_more [] x = refl
sent_more (y ∷ l) x = ap (λ (r : List ℕ). y.number ∷ y.sender ∷ y.receiver ∷ r) (sent_more l x)

pub sent_length : (l : List Message) → length (sent_numbers l) ≡ 3 * length l
unfolding sent_numbers
sent_length [] = refl
sent_length (y ∷ l) = omega (arith, sent_length l)

-- The checkpoints of the first k places, and one more.
pub stored_step : (f : ℕ → Checkpoint) (l₀ l : List ℕ) (k : ℕ) → l ≡ sets l₀ 0 (stored_numbers (table k f))
    → sets l (3 * k) (three_stored (f k)) ≡ sets l₀ 0 (stored_numbers (table (k + 1) f))
unfolding table
stored_step f l₀ l k inv =
    rw (add-one k) (
    sets_after l₀ l 0 (3 * k) (stored_numbers (table k f)) inv (omega (arith, stored_length (table k f), length_table k f)) (three_stored (f k))
    ∙ ap (sets l₀ 0) (sym (stored_more (table k f) (f k))))

-- The messages of the first k places that pass a test, and those with one more.
module _ (t : Message → Bool) (f : ℕ → Message) (l₀ l : List ℕ) (k many : ℕ) (inv : l ≡ sets l₀ 0 (sent_numbers (select t (table k f)))) (e : many ≡ length (select t (table k f))) where
  more : select t (table (k + 1) f) ≡ select t (table k f) ++ pick (t (f k)) (f k ∷ []) []
  unfolding table
  more = rw (add-one k) (select_append t (table k f) (f k ∷ []) ∙ ap (λ (z : List Message). select t (table k f) ++ z) (select_one t (f k)))

  pub sent_step : (pick (t (f k)) (sets l (3 * many) (three_of (f k))) l ≡ sets l₀ 0 (sent_numbers (select t (table (k + 1) f))))
      × (pick (t (f k)) (many + 1) many ≡ length (select t (table (k + 1) f)))
  sent_step = rw more (by_bool (t (f k))
      (λ is. rw is (
        sets_after l₀ l 0 (3 * many) (sent_numbers (select t (table k f))) inv (omega (arith, sent_length (select t (table k f)))) (three_of (f k))
            ∙ ap (sets l₀ 0) (sym (sent_more (select t (table k f)) (f k))),
        omega (arith, length-append (select t (table k f)) (f k ∷ [])),
      ))
      (λ isnt. rw (isnt, append-nil (select t (table k f))) (inv, e)))
