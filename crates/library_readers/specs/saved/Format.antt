-- The bytes of a saved state: eight that say what it is, "LEMIDROS", two of the version of this format, 1, two of each of the 6,464 words, and four of the checksum of
-- all these. Every number has its lowest byte first, on every machine. proofs/Back says that words are read back from their bytes, that whole bytes are those of the
-- words read from them, and that bytes are no longer whole where up to four in a row were changed.
-- Assumes nothing.
use Rattle.std.specs.Prelude.{◌&&◌, ◌∷◌, ◌++◌, ◌+◌, ◌*◌, ◌/◌, ◌%◌}
use Rattle.laws.specs.Basics.{Bool, List, [], ℕ, eqb, length, get_or, take}
use Rattle.laws.specs.{Lists.table, Search.all_below}
use Rattle.words.specs.Layout.{state_size}
use Rattle.library_readers.specs.saved.Castagnoli.{crc32c}

unfoldable pub heading : List ℕ
heading = 76 ∷ 69 ∷ 77 ∷ 73 ∷ 68 ∷ 82 ∷ 79 ∷ 83 ∷ 1 ∷ 0 ∷ []

unfoldable pub word_bytes : List ℕ → List ℕ
word_bytes [] = []
word_bytes (x ∷ l) = x % 256 ∷ x / 256 ∷ word_bytes l

-- What the checksum is of.
unfoldable pub summed_bytes : List ℕ → List ℕ
summed_bytes w = heading ++ word_bytes w

unfoldable pub sum_bytes : ℕ → List ℕ
sum_bytes x = x % 256 ∷ x / 256 % 256 ∷ x / 256 / 256 % 256 ∷ x / 256 / 256 / 256 ∷ []

unfoldable pub saved_bytes : List ℕ → List ℕ
saved_bytes w = summed_bytes w ++ sum_bytes (crc32c (summed_bytes w))

-- How many bytes these are of 6,464 words: those that the checksum is of, and all.
abbrev pub summed_size : ℕ
summed_size = 12_938

abbrev pub saved_size : ℕ
saved_size = 12_942

-- The words that bytes hold, and the checksum that stands after them.
unfoldable pub word_in_of : List ℕ → ℕ → ℕ
word_in_of bytes k = get_or bytes (10 + 2 * k) 0 + 256 * get_or bytes (11 + 2 * k) 0

unfoldable pub words_in : List ℕ → List ℕ
words_in bytes = table state_size (word_in_of bytes)

unfoldable pub sum_in_of : List ℕ → ℕ
sum_in_of bytes = get_or bytes 12_938 0 + 256 * get_or bytes 12_939 0 + 65_536 * get_or bytes 12_940 0 + 16_777_216 * get_or bytes 12_941 0

-- Bytes that are whole: exactly as many as are saved, with the heading, and with their checksum.
unfoldable pub has_heading_of : List ℕ → Bool
has_heading_of bytes = all_below 10 (λ k. eqb (get_or bytes k 0) (get_or heading k 0))

unfoldable pub has_sum : List ℕ → Bool
has_sum bytes = eqb (sum_in_of bytes) (crc32c (take summed_size bytes))

unfoldable pub is_whole : List ℕ → Bool
is_whole bytes = eqb (length bytes) saved_size && (has_heading_of bytes && has_sum bytes)
