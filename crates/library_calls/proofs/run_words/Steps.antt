-- One step of the filling, in its cases: what a function returns and leaves of the words is what the definitions say.
-- Assumes nothing.
use Rattle.std.specs.Prelude.{◌≡◌, ◌&&◌, ◌∷◌, ◌+◌, ◌/◌, ◌%◌, ◌≤◌, ◌<◌, None}
use Rattle.laws.specs.Basics.{refl, ◌∙◌, ap, Bool, true, false, not, List, [], ℕ, arith, eqb, get_or, set, lt-ltb, le-ltb, le-leb, lt-leb}
use Rattle.laws.specs.Search.{all_below}
use Rattle.model.specs.Shapes.{Pin}
use Rattle.model.specs.declared.{Interval.Interval, Checkpoint.Checkpoint, Message.Message, Disk.Disk}
use Rattle.model.specs.{Words.past_end, Sound.zero_from, Sound.nothing_from, Sound.unused_checkpoint, Sound.unused_message}
use Rattle.words.specs.Layout.{kept_count_at_of, mark_at, blocks_at_of, part_at, pins_at_of, index_at_of, cause_at_of, stored_at}
use Rattle.words.specs.Puts.{puts, vector_put, puts2, puts4}
use Rattle.words.proofs.Reading.{set_is_put}
use Rattle.library_calls.specs.run_words.Fits.{index_fits, pin_fits, message_fits, checkpoint_fits, place_fits, row_fits_of, one_fits}
use Rattle.library_calls.specs.run_words.Filled.{pins_put, mark_word_of, checkpoint_puts, place_filled, kept_filled, process_puts, row_filled, message_puts, one_filled, number_puts}

-- A test's verdict, of which the code has the negation.
pub denied : {fit : Bool} (b : Bool) → fit ≡ b → not fit ≡ true → b ≡ false
denied true e t = absurd (let z : ◌≡◌ {A = ℕ} 0 1 = cc in omega arith)
denied false e t = refl

pub granted : {fit : Bool} (b : Bool) → fit ≡ b → not fit ≡ false → b ≡ true
granted true e t = refl
granted false e t = absurd (let z : ◌≡◌ {A = ℕ} 0 1 = cc in omega arith)

module _ (p k kept_count_of_def blocks : ℕ) (c : Checkpoint) (w : List ℕ) where
  pub place_refused : k < kept_count_of_def → index_fits c.index ≡ false → (false ≡ place_fits k kept_count_of_def blocks c) × (w ≡ place_filled p k kept_count_of_def c w)
  unfolding place_fits checkpoint_fits place_filled
  place_refused lt e = rw (lt-ltb k kept_count_of_def lt, e) (refl, refl)

  pub place_put : (v : List ℕ) → k < kept_count_of_def → index_fits c.index ≡ true → v ≡ puts w (checkpoint_puts p k c) → (eqb c.blocks blocks ≡ place_fits k kept_count_of_def blocks c) × (v ≡ place_filled p k kept_count_of_def c w)
  unfolding place_fits checkpoint_fits place_filled
  place_put v lt e q = rw (lt-ltb k kept_count_of_def lt, e) (refl, q)

  pub place_unused : (r : Bool) → kept_count_of_def ≤ k → r ≡ unused_checkpoint c → (r ≡ place_fits k kept_count_of_def blocks c) × (w ≡ place_filled p k kept_count_of_def c w)
  unfolding place_fits place_filled
  place_unused r le e = rw (le-ltb k kept_count_of_def le) (e, refl)

-- The same of all places, the block count put first.
pub place_more : (kept : List (List Checkpoint)) (kept_count_of_def : List ℕ) (q : ℕ) (w v : List ℕ)
    → v ≡ place_filled (q / 16) (q % 16) (get_or kept_count_of_def (q / 16) 0) (get_or (get_or kept (q / 16) []) (q % 16) past_end) (set w (blocks_at_of (q / 16)) (get_or (get_or kept (q / 16) []) 0 past_end).blocks)
    → v ≡ kept_filled kept kept_count_of_def q w
unfolding kept_filled
place_more kept kept_count_of_def q w v e = e ∙ ap (place_filled (q / 16) (q % 16) (get_or kept_count_of_def (q / 16) 0) (get_or (get_or kept (q / 16) []) (q % 16) past_end)) (set_is_put w _ _)

module _ (p n : ℕ) (vector : List Interval) (pins : List Pin) (kept_count_of_def : ℕ) (mark : Bool) (w : List ℕ) where
  pub row_refused : p < n → 16 < kept_count_of_def → (false ≡ row_fits_of p n vector pins kept_count_of_def mark) × (w ≡ row_filled p n vector pins kept_count_of_def mark w)
  unfolding row_fits_of row_filled
  row_refused lt more = rw (lt-ltb p n lt, lt-leb kept_count_of_def 16 more) (refl, refl)

  pub row_put : (r : Bool) (v : List ℕ) → p < n → kept_count_of_def ≤ 16 → r ≡ all_below 16 (λ f. pin_fits (get_or pins f None)) → v ≡ puts w (process_puts p vector pins kept_count_of_def mark)
      → (r ≡ row_fits_of p n vector pins kept_count_of_def mark) × (v ≡ row_filled p n vector pins kept_count_of_def mark w)
  unfolding row_fits_of row_filled
  row_put r v lt few e q = rw (lt-ltb p n lt, le-leb kept_count_of_def 16 few) (e, q)

  pub row_unused_lem : (zero nothing : Bool) → n ≤ p → zero ≡ zero_from 0 vector → nothing ≡ nothing_from 0 pins
      → ((zero && nothing && eqb kept_count_of_def 0 && not mark) ≡ row_fits_of p n vector pins kept_count_of_def mark) × (w ≡ row_filled p n vector pins kept_count_of_def mark w)
  unfolding row_fits_of row_filled
  row_unused_lem zero nothing le a b = rw (le-ltb p n le, a, b) (refl, refl)

module _ (k many : ℕ) (x : Message) (w : List ℕ) where
  pub one_refused : k < many → message_fits x ≡ false → (false ≡ one_fits k many x) × (w ≡ one_filled k many x w)
  unfolding one_fits one_filled
  one_refused lt e = rw (lt-ltb k many lt, e) (refl, refl)

  pub one_put : (v : List ℕ) → k < many → message_fits x ≡ true → v ≡ puts w (message_puts k x) → (true ≡ one_fits k many x) × (v ≡ one_filled k many x w)
  unfolding one_fits one_filled
  one_put v lt e q = rw (lt-ltb k many lt, e) (refl, q)

  pub one_unused : (r : Bool) → many ≤ k → r ≡ unused_message x → (r ≡ one_fits k many x) × (w ≡ one_filled k many x w)
  unfolding one_fits one_filled
  one_unused r le e = rw (le-ltb k many le) (e, refl)

-- Words put one after the other, as the code puts them.
pub numbers_put : (w a b d : List ℕ) (n many last : ℕ) (disk : Disk) → a ≡ puts (set (set w 0 n) 1 many) (puts2 2 last) → b ≡ puts a (puts4 4 disk.written) → d ≡ puts b (puts4 8 disk.deleted)
    → set d 12 many ≡ puts w (number_puts n many last disk)
numbers_put w a b d n many last disk x y z = rw (z, y, x) (simp set_is_put)

pub process_put : (w a b : List ℕ) (p : ℕ) (vector : List Interval) (pins : List Pin) (kept_count_of_def : ℕ) (mark : Bool) (x : ℕ) → a ≡ puts w (vector_put (part_at p) vector ∷ [])
    → b ≡ puts a (pins_put (pins_at_of p) pins ∷ []) → x ≡ mark_word_of mark → set (set b (kept_count_at_of p) kept_count_of_def) (mark_at p) x ≡ puts w (process_puts p vector pins kept_count_of_def mark)
process_put w a b p vector pins kept_count_of_def mark x e f g = rw (f, e, g) (simp set_is_put)

pub checkpoint_put : (w b : List ℕ) (p k : ℕ) (c : Checkpoint) (x : ℕ) → x ≡ c.index.0 + 1
    → b ≡ puts (set (set w (index_at_of p k) x) (cause_at_of p k) c.cause) (vector_put (stored_at p k) c.vector ∷ []) → b ≡ puts w (checkpoint_puts p k c)
checkpoint_put w b p k c x e q = rw (q, e) (simp set_is_put)
