-- Words are read back from their bytes; bytes that are whole are those of the words read from them; and bytes are no longer whole where
-- up to four in a row were changed.
-- Assumes nothing.
use Rattle.std.specs.Prelude.{◌≡◌, ◌∷◌, ◌++◌, ◌+◌, ◌-◌, ◌*◌, ◌/◌, ◌%◌, ◌≤◌, ◌<◌}
use Rattle.laws.specs.Basics.{refl, sym, ◌∙◌, ap, true, List, [], ℕ, zero, suc, arith, eqb, length, get_or, take, drop, length-drop, length-take-le, eq-eqb, eqb-true}
use lib.ListN.{take-append-drop, get_or-append}
use lib.Seq.{ext_get_or, get_or-take, get_or-drop}
use Rattle.laws.specs.{Rows.by_lt, Search.all_below, Search.all_in, Search.all_out, Tables.length_table, Tables.get_d_table}
use Rattle.laws.specs.Truth.{and_left, and_right, and_both}
use Rattle.library_readers.specs.saved.Castagnoli.{ones, remainder, crc32c, Bytes}
use Rattle.library_readers.proofs.saved.FourBytes.{by_parity, number, eights, four_bytes, with_sum}
use Rattle.library_readers.specs.saved.Format.{heading, word_bytes, summed_bytes, sum_bytes, saved_bytes, word_in_of, words_in, sum_in_of, has_heading_of, has_sum, is_whole}
use Rattle.library_readers.proofs.saved.Parts.{low_byte, high_byte, summed_length, saved_length, saved_front, saved_end, at_heading, at_words}

-- A number of four bytes.
number_back : (x : ℕ) → x % 256 + 256 * (x / 256 % 256) + 65_536 * (x / 256 / 256 % 256) + 16_777_216 * (x / 256 / 256 / 256) ≡ x
number_back x = omega arith

bytes_back : (a b c d : ℕ) → a < 256 → b < 256 → c < 256 → d < 256 → sum_bytes (a + 256 * b + 65_536 * c + 16_777_216 * d) ≡ a ∷ b ∷ c ∷ d ∷ []
unfolding sum_bytes
bytes_back a b c d p q r s =
    let first : (a + 256 * b + 65_536 * c + 16_777_216 * d) / 256 ≡ b + 256 * c + 65_536 * d = omega arith in
    let second : (b + 256 * c + 65_536 * d) / 256 ≡ c + 256 * d = omega arith in
    let third : (c + 256 * d) / 256 ≡ d = omega arith in
    let one : (a + 256 * b + 65_536 * c + 16_777_216 * d) % 256 ≡ a = omega arith in
    let two : (b + 256 * c + 65_536 * d) % 256 ≡ b = omega arith in
    let three : (c + 256 * d) % 256 ≡ c = omega arith in
    rw (first, second, third, one, two, three)

four : (l : List ℕ) → length l ≡ 4 → l ≡ get_or l 0 0 ∷ get_or l 1 0 ∷ get_or l 2 0 ∷ get_or l 3 0 ∷ []
four [] n = absurd (omega arith)
four (a ∷ []) n = absurd (omega arith)
four (a ∷ b ∷ []) n = absurd (omega arith)
four (a ∷ b ∷ c ∷ []) n = absurd (omega arith)
four (a ∷ b ∷ c ∷ d ∷ []) n = refl
four (a ∷ b ∷ c ∷ d ∷ e ∷ l) n = absurd (omega arith)

-- Parts of a list of bytes.
bytes_take : (n : ℕ) (l : List ℕ) → Bytes l → Bytes (take n l)
bytes_take n l h k = by_lt k n
    (λ less. rw (get_or-take n l k 0 less) (h k))
    (λ le. past n l k le)
  where
    past : (n : ℕ) (l : List ℕ) (k : ℕ) → n ≤ k → get_or (take n l) k 0 < 256
    past zero l k le = omega arith
    past (suc n) [] k le = omega arith
    past (suc n) (x ∷ l) zero le = absurd (omega arith)
    past (suc n) (x ∷ l) (suc k) le = past n l k (omega arith)

bytes_drop : (n : ℕ) (l : List ℕ) → Bytes l → Bytes (drop n l)
bytes_drop n l h k = rw (get_or-drop n l k 0) (h (n + k))

bytes_left : (l m : List ℕ) → Bytes (l ++ m) → Bytes l
bytes_left [] m h k = omega arith
bytes_left (x ∷ l) m h zero = h 0
bytes_left (x ∷ l) m h (suc k) = bytes_left l m (λ j. h (suc j)) k

bytes_right : (l m : List ℕ) → Bytes (l ++ m) → Bytes m
bytes_right [] m h = h
bytes_right (x ∷ l) m h = bytes_right l m (λ j. h (suc j))

bytes_both : (l m : List ℕ) → Bytes l → Bytes m → Bytes (l ++ m)
bytes_both [] m h g k = g k
bytes_both (x ∷ l) m h g zero = h 0
bytes_both (x ∷ l) m h g (suc k) = bytes_both l m (λ j. h (suc j)) g k

-- The checksum that stands after bytes, and what it is there for.
sum_by : (bytes : List ℕ) (x : ℕ) → drop 12938 bytes ≡ sum_bytes x → sum_in_of bytes ≡ x
unfolding sum_in_of sum_bytes
sum_by bytes x e =
    let first : get_or bytes 12_938 0 ≡ x % 256 = sym (get_or-drop 12938 bytes 0 0) ∙ ap (λ (l : List ℕ). get_or l 0 0) e in
    let second : get_or bytes 12_939 0 ≡ x / 256 % 256 = sym (get_or-drop 12938 bytes 1 0) ∙ ap (λ (l : List ℕ). get_or l 1 0) e in
    let third : get_or bytes 12_940 0 ≡ x / 256 / 256 % 256 = sym (get_or-drop 12938 bytes 2 0) ∙ ap (λ (l : List ℕ). get_or l 2 0) e in
    let fourth : get_or bytes 12_941 0 ≡ x / 256 / 256 / 256 = sym (get_or-drop 12938 bytes 3 0) ∙ ap (λ (l : List ℕ). get_or l 3 0) e in
    rw (first, second, third, fourth) (number_back x)

end_by : (bytes : List ℕ) → Bytes bytes → length bytes ≡ 12942 → drop 12938 bytes ≡ sum_bytes (sum_in_of bytes)
unfolding sum_in_of
end_by bytes small size =
    let l = drop 12938 bytes in
    let first : get_or l 0 0 ≡ get_or bytes 12_938 0 = get_or-drop 12938 bytes 0 0 in
    let second : get_or l 1 0 ≡ get_or bytes 12_939 0 = get_or-drop 12938 bytes 1 0 in
    let third : get_or l 2 0 ≡ get_or bytes 12_940 0 = get_or-drop 12938 bytes 2 0 in
    let fourth : get_or l 3 0 ≡ get_or bytes 12_941 0 = get_or-drop 12938 bytes 3 0 in
    four l (length-drop 12938 bytes ∙ omega (arith, size)) ∙ rw (first, second, third, fourth) (sym (bytes_back _ _ _ _ (small 12_938) (small 12_939) (small 12_940) (small 12_941)))

-- What whole bytes are, test by test.
module _ (bytes : List ℕ) where
  whole_in : length bytes ≡ 12942 → ((k : ℕ) → k < 10 → get_or bytes k 0 ≡ get_or heading k 0) → sum_in_of bytes ≡ crc32c (take 12938 bytes) → is_whole bytes ≡ true
  unfolding is_whole has_heading_of has_sum
  whole_in size head sum = and_both (eqb (length bytes) 12942) _ (eq-eqb (length bytes) 12942 size)
      (and_both (all_below 10 (λ k. eqb (get_or bytes k 0) (get_or heading k 0))) _ (all_in 10 _ (λ k less. eq-eqb (get_or bytes k 0) (get_or heading k 0) (head k less))) (eq-eqb (sum_in_of bytes) (crc32c (take 12938 bytes)) sum))

  module _ (whole : is_whole bytes ≡ true) where
    pub whole_size : length bytes ≡ 12942
    unfolding is_whole
    whole_size = eqb-true (length bytes) 12942 (and_left (eqb (length bytes) 12942) _ whole)

    whole_heading : (k : ℕ) → k < 10 → get_or bytes k 0 ≡ get_or heading k 0
    unfolding is_whole has_heading_of
    whole_heading k less = eqb-true (get_or bytes k 0) (get_or heading k 0)
        (all_out 10 (λ q. eqb (get_or bytes q 0) (get_or heading q 0)) (and_left _ (has_sum bytes) (and_right (eqb (length bytes) 12942) _ whole)) k less)

    whole_sum : sum_in_of bytes ≡ crc32c (take 12938 bytes)
    unfolding is_whole has_sum
    whole_sum = eqb-true (sum_in_of bytes) (crc32c (take 12938 bytes)) (and_right (has_heading_of bytes) _ (and_right (eqb (length bytes) 12942) _ whole))

-- The words are read back from their bytes.
module _ (w : List ℕ) (size : length w ≡ 6464) where
  in_front : (k : ℕ) → k < 12938 → get_or (saved_bytes w) k 0 ≡ get_or (summed_bytes w) k 0
  unfolding saved_bytes
  in_front k less = get_or-append (summed_bytes w) _ 0 k (omega (arith, summed_length w size))

  word_back : (k : ℕ) → k < 6464 → word_in_of (saved_bytes w) k ≡ get_or w k 0
  unfolding word_in_of
  word_back k less =
      let e : 11 + 2 * k ≡ 10 + (1 + 2 * k) = omega arith in
      let low : get_or (saved_bytes w) (10 + 2 * k) 0 ≡ get_or w k 0 % 256 = in_front (10 + 2 * k) (omega arith) ∙ at_words w (2 * k) ∙ low_byte w k in
      let high : get_or (saved_bytes w) (11 + 2 * k) 0 ≡ get_or w k 0 / 256 =
      in_front (11 + 2 * k) (omega arith) ∙ ap (λ (n : ℕ). get_or (summed_bytes w) n 0) e ∙ at_words w (1 + 2 * k) ∙ high_byte w k in
      omega arith

  pub saved_words : words_in (saved_bytes w) ≡ w
  unfolding words_in
  saved_words = ext_get_or 0 _ w (length_table 6464 _ ∙ sym size)
      (λ k less. let few : k < 6464 = rw (length_table 6464 (word_in_of (saved_bytes w))) at less in get_d_table 6464 _ k 0 few ∙ word_back k few)

  sum_back : sum_in_of (saved_bytes w) ≡ crc32c (summed_bytes w)
  sum_back = sum_by (saved_bytes w) (crc32c (summed_bytes w)) (saved_end w size)

  pub saved_whole : is_whole (saved_bytes w) ≡ true
  saved_whole = whole_in (saved_bytes w) (saved_length w size)
      (λ k less. in_front k (omega arith) ∙ at_heading w k less)
      (sum_back ∙ ap crc32c (sym (saved_front w size)))

pub loaded_length : (bytes : List ℕ) → length (words_in bytes) ≡ 6464
unfolding words_in
loaded_length bytes = length_table 6464 (word_in_of bytes)

-- Bytes that are whole are those of the words that they hold.
module _ (bytes : List ℕ) (small : Bytes bytes) (whole : is_whole bytes ≡ true) where
  size : length bytes ≡ 12942
  size = whole_size bytes whole

  loaded : (k : ℕ) → k < 6464 → get_or (words_in bytes) k 0 ≡ get_or bytes (10 + 2 * k) 0 + 256 * get_or bytes (11 + 2 * k) 0
  unfolding words_in word_in_of
  loaded k less = get_d_table 6464 (word_in_of bytes) k 0 less

  -- Byte k after the heading.
  byte_loaded : (k : ℕ) → k < 12928 → get_or (word_bytes (words_in bytes)) k 0 ≡ get_or bytes (10 + k) 0
  byte_loaded k less = by_parity k
      (λ zero. let even : k ≡ 2 * (k / 2) = omega arith in
      let e = loaded (k / 2) (omega arith) in
      let lower = small (10 + 2 * (k / 2)) in
      let low : get_or (words_in bytes) (k / 2) 0 % 256 ≡ get_or bytes (10 + 2 * (k / 2)) 0 = omega arith in
      ap (λ (n : ℕ). get_or (word_bytes (words_in bytes)) n 0) even ∙ low_byte (words_in bytes) (k / 2) ∙ low ∙ ap (λ (n : ℕ). get_or bytes (10 + n) 0) (sym even))
      (λ one. let odd : k ≡ 1 + 2 * (k / 2) = omega arith in
      let e = loaded (k / 2) (omega arith) in
      let lower = small (10 + 2 * (k / 2)) in
      let place : 11 + 2 * (k / 2) ≡ 10 + k = omega arith in
      let high : get_or (words_in bytes) (k / 2) 0 / 256 ≡ get_or bytes (11 + 2 * (k / 2)) 0 = omega arith in
      ap (λ (n : ℕ). get_or (word_bytes (words_in bytes)) n 0) odd ∙ high_byte (words_in bytes) (k / 2) ∙ high ∙ ap (λ (n : ℕ). get_or bytes n 0) place)

  byte_summed : (k : ℕ) → k < 12938 → get_or bytes k 0 ≡ get_or (summed_bytes (words_in bytes)) k 0
  byte_summed k less = by_lt k 10
      (λ early. whole_heading bytes whole k early ∙ sym (at_heading (words_in bytes) k early))
      (λ late. let e : 10 + (k - 10) ≡ k = omega arith in
      let same = sym (byte_loaded (k - 10) (omega arith)) ∙ sym (at_words (words_in bytes) (k - 10)) in
      rw e at same)

  front_loaded : take 12938 bytes ≡ summed_bytes (words_in bytes)
  front_loaded =
      let short : length (take 12938 bytes) ≡ 12938 = length-take-le 12938 bytes (omega (arith, size)) in
      ext_get_or 0 (take 12938 bytes) _ (short ∙ sym (summed_length (words_in bytes) (loaded_length bytes)))
      (λ k less. let few : k < 12938 = rw short at less in get_or-take 12938 bytes k 0 few ∙ byte_summed k few)

  pub end_loaded : drop 12938 bytes ≡ sum_bytes (sum_in_of bytes)
  end_loaded = end_by bytes small size

  pub whole_saved : bytes ≡ saved_bytes (words_in bytes)
  unfolding saved_bytes
  whole_saved =
      let summed : sum_in_of bytes ≡ crc32c (summed_bytes (words_in bytes)) = whole_sum bytes whole ∙ ap crc32c front_loaded in
      sym (take-append-drop 12938 bytes) ∙ ap (λ (l : List ℕ). l ++ drop 12938 bytes) front_loaded
      ∙ ap (λ (l : List ℕ). summed_bytes (words_in bytes) ++ l) (end_loaded ∙ ap sum_bytes summed)

-- What is left of whole bytes is the same for all of them: their checksum stands after them.
number_loaded : (bytes : List ℕ) → length bytes ≡ 12942 → number (drop 12938 bytes) ≡ sum_in_of bytes
unfolding number sum_in_of
number_loaded bytes size =
    let l = drop 12938 bytes in
    let first : get_or l 0 0 ≡ get_or bytes 12_938 0 = get_or-drop 12938 bytes 0 0 in
    let second : get_or l 1 0 ≡ get_or bytes 12_939 0 = get_or-drop 12938 bytes 1 0 in
    let third : get_or l 2 0 ≡ get_or bytes 12_940 0 = get_or-drop 12938 bytes 2 0 in
    let fourth : get_or l 3 0 ≡ get_or bytes 12_941 0 = get_or-drop 12938 bytes 3 0 in
    ap number (four l (length-drop 12938 bytes ∙ omega (arith, size))) ∙ omega arith

whole_left : (bytes : List ℕ) → Bytes bytes → is_whole bytes ≡ true → remainder ones bytes ≡ eights 4 ones
whole_left bytes small whole =
    let size = whole_size bytes whole in
    ap (remainder ones) (sym (take-append-drop 12938 bytes))
    ∙ with_sum (take 12938 bytes) (drop 12938 bytes) (bytes_take 12938 bytes small) (bytes_drop 12938 bytes small) (length-drop 12938 bytes ∙ omega (arith, size))
    (number_loaded bytes size ∙ whole_sum bytes whole)

-- Bytes in the place of up to four in a row: both are whole only if they are the same.
module _ (before l m rest : List ℕ) (small : Bytes (before ++ l ++ rest)) (others : Bytes m) (same : length l ≡ length m) (few : length l ≤ 4) where
  front_small : Bytes (before ++ l)
  front_small = bytes_left (before ++ l) rest small

  changed_small : Bytes (before ++ m ++ rest)
  changed_small = bytes_both (before ++ m) rest (bytes_both before m (bytes_left before l front_small) others) (bytes_right (before ++ l) rest small)

  pub four_changed : is_whole (before ++ l ++ rest) ≡ true → is_whole (before ++ m ++ rest) ≡ true → l ≡ m
  four_changed whole again =
      four_bytes before rest l m (bytes_left before l front_small) (bytes_right (before ++ l) rest small) (bytes_right before l front_small) others same few
      (whole_left (before ++ l ++ rest) small whole ∙ sym (whole_left (before ++ m ++ rest) changed_small again))
