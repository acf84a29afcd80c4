-- The parts of saved bytes: how many they are, and what stands at each place.
-- Assumes nothing.
use Rattle.std.specs.Prelude.{◌≡◌, ◌∷◌, ◌++◌, ◌+◌, ◌*◌, ◌/◌, ◌%◌, ◌≤◌, ◌<◌}
use Rattle.laws.specs.Basics.{refl, sym, ◌∙◌, ap, true, false, List, [], ℕ, zero, suc, arith, eqb, length, get_or, take, drop, length-append, sets, length-take-le, eq-eqb, ne_eqb}
use lib.ListN.{get_or-append}
use lib.Seq.{get_or-append-add, take_at, drop_at}
use Rattle.laws.specs.{Front.written_front, Lists.table, Loops.all_yes, Prefixes.take_more, Rows.all_stop, Search.all_below, Written.sets_after}
use Rattle.library_readers.specs.saved.Castagnoli.{crc32c}
use Rattle.library_readers.specs.saved.Format.{heading, word_bytes, summed_bytes, sum_bytes, saved_bytes, sum_in_of, has_heading_of, has_sum, is_whole}

pub heading_length : length heading ≡ 10
unfolding heading
heading_length = refl

pub words_length : (w : List ℕ) → length (word_bytes w) ≡ 2 * length w
unfolding word_bytes
words_length [] = refl
words_length (x ∷ w) = let e = words_length w in omega arith

pub words_append : (v w : List ℕ) → word_bytes (v ++ w) ≡ word_bytes v ++ word_bytes w
unfolding word_bytes
words_append [] w = refl
words_append (x ∷ v) w = rw (words_append v w)

-- The two bytes of a word, also past the end, where both are 0.
pub low_byte : (w : List ℕ) (k : ℕ) → get_or (word_bytes w) (2 * k) 0 ≡ get_or w k 0 % 256
unfolding word_bytes
low_byte [] k = refl
low_byte (x ∷ w) zero = refl
low_byte (x ∷ w) (suc k) = let e : 2 * suc k ≡ suc (suc (2 * k)) = omega arith in rw e (low_byte w k)

pub high_byte : (w : List ℕ) (k : ℕ) → get_or (word_bytes w) (1 + 2 * k) 0 ≡ get_or w k 0 / 256
unfolding word_bytes
high_byte [] k = refl
high_byte (x ∷ w) zero = refl
high_byte (x ∷ w) (suc k) = let e : 1 + 2 * suc k ≡ suc (suc (1 + 2 * k)) = omega arith in rw e (high_byte w k)

module _ (w : List ℕ) (size : length w ≡ 6464) where
  pub summed_length : length (summed_bytes w) ≡ 12938
  unfolding summed_bytes
  summed_length = length-append heading (word_bytes w) ∙ omega (arith, heading_length, words_length w)

  pub saved_length : length (saved_bytes w) ≡ 12942
  unfolding saved_bytes sum_bytes
  saved_length = length-append (summed_bytes w) _ ∙ omega (arith, summed_length)

  pub saved_front : take 12938 (saved_bytes w) ≡ summed_bytes w
  unfolding saved_bytes
  saved_front = take_at (summed_bytes w) _ 12938 summed_length

  pub saved_end : drop 12938 (saved_bytes w) ≡ sum_bytes (crc32c (summed_bytes w))
  unfolding saved_bytes
  saved_end = drop_at (summed_bytes w) _ 12938 summed_length

-- What stands at the places of the heading and of the words.
pub at_heading : (w : List ℕ) (k : ℕ) → k < 10 → get_or (summed_bytes w) k 0 ≡ get_or heading k 0
unfolding summed_bytes
at_heading w k less = get_or-append heading (word_bytes w) 0 k (omega (arith, heading_length))

pub at_words : (w : List ℕ) (k : ℕ) → get_or (summed_bytes w) (10 + k) 0 ≡ get_or (word_bytes w) k 0
unfolding summed_bytes
at_words w k = ap (λ (n : ℕ). get_or (heading ++ word_bytes w) (n + k) 0) (sym heading_length) ∙ get_or-append-add heading (word_bytes w) k 0

-- The heading, entry by entry.
pub heading_table : table 10 (λ q. get_or heading q 0) ≡ heading
unfolding table heading
heading_table = refl

-- Words written one after the other, after the heading.
pub none_written : (w bytes : List ℕ) → bytes ≡ sets bytes 10 (word_bytes (take 0 w))
unfolding word_bytes
none_written w bytes = refl

pub one_written : (w bytes₀ bytes : List ℕ) (k : ℕ) → k < length w → bytes ≡ sets bytes₀ 10 (word_bytes (take k w))
    → sets bytes (10 + 2 * k) (word_bytes (get_or w k 0 ∷ [])) ≡ sets bytes₀ 10 (word_bytes (take (k + 1) w))
one_written w bytes₀ bytes k less so_far =
    let front : length (word_bytes (take k w)) ≡ 2 * k = words_length (take k w) ∙ ap (λ (n : ℕ). 2 * n) (length-take-le k w (omega arith)) in
    sets_after bytes₀ bytes 10 (10 + 2 * k) (word_bytes (take k w)) so_far (omega arith) (word_bytes (get_or w k 0 ∷ []))
    ∙ ap (sets bytes₀ 10) (sym (ap word_bytes (take_more w k 0 less) ∙ words_append (take k w) (get_or w k 0 ∷ [])))

-- The parts written one after the other.
module _ (w bytes first second third : List ℕ) (sum : ℕ) (size : length w ≡ 6464) (room : 12942 ≤ length bytes) (headed : first ≡ sets bytes 0 heading)
    (filled : second ≡ sets first 10 (word_bytes w)) (summed : sum ≡ crc32c (take 12938 second)) (ended : third ≡ sets second 12938 (sum_bytes sum)) where
  front_written : second ≡ sets bytes 0 (summed_bytes w)
  unfolding summed_bytes
  front_written = filled ∙ sets_after bytes first 0 10 heading headed (omega (arith, heading_length)) (word_bytes w)

  front_taken : take 12938 second ≡ summed_bytes w
  front_taken = ap (take 12938) (front_written ∙ written_front bytes (summed_bytes w) (omega (arith, summed_length w size)))
      ∙ take_at (summed_bytes w) _ 12938 (summed_length w size)

  pub whole_written : third ≡ sets bytes 0 (saved_bytes w)
  unfolding saved_bytes
  whole_written = ended ∙ ap (λ (x : ℕ). sets second 12938 (sum_bytes x)) (summed ∙ ap crc32c front_taken)
      ∙ sets_after bytes second 0 12938 (summed_bytes w) front_written (omega (arith, summed_length w size)) (sum_bytes (crc32c (summed_bytes w)))

-- The tests that make bytes whole, as they are asked one after the other.
pub head_off : (bytes first : List ℕ) (k : ℕ) → k < 10 → first ≡ heading → (get_or bytes k 0 ≡ get_or first k 0 → ⊥) → false ≡ has_heading_of bytes
unfolding has_heading_of
head_off bytes first k less same off =
    all_stop 10 (λ q. eqb (get_or bytes q 0) (get_or heading q 0)) k less (ne_eqb (get_or bytes k 0) (get_or heading k 0) (λ e. off (e ∙ ap (λ (h : List ℕ). get_or h k 0) (sym same))))

pub head_on : (bytes first : List ℕ) (k : ℕ) → first ≡ heading → true ≡ all_below k (λ q. eqb (get_or bytes q 0) (get_or heading q 0)) → get_or bytes k 0 ≡ get_or first k 0
    → true ≡ all_below (k + 1) (λ q. eqb (get_or bytes q 0) (get_or heading q 0))
head_on bytes first k same so_far on =
    all_yes (λ q. eqb (get_or bytes q 0) (get_or heading q 0)) k true so_far (eq-eqb (get_or bytes k 0) (get_or heading k 0) (on ∙ ap (λ (h : List ℕ). get_or h k 0) same))

module _ (bytes : List ℕ) where
  pub not_sized : (length bytes ≡ 12942 → ⊥) → false ≡ is_whole bytes
  unfolding is_whole
  not_sized off = rw (ne_eqb (length bytes) 12942 off)

  pub not_headed : length bytes ≡ 12942 → has_heading_of bytes ≡ false → false ≡ is_whole bytes
  unfolding is_whole
  not_headed size off = rw (eq-eqb (length bytes) 12942 size, off)

  pub summed_or_not : length bytes ≡ 12942 → has_heading_of bytes ≡ true → (stored sum : ℕ) → stored ≡ sum_in_of bytes → sum ≡ crc32c (take 12938 bytes) → eqb stored sum ≡ is_whole bytes
  unfolding is_whole has_sum
  summed_or_not size on stored sum e f = rw (eq-eqb (length bytes) 12942 size, on, e, f)
