-- CRC-32C: the remainder of bytes by the polynomial of Castagnoli, lowest bit first, started from 32 ones and inverted at the end. `bit_xor` is the exclusive or of two
-- numbers, bit by bit. proofs/Published has the checksum's published check value.
-- Assumes nothing.
use Rattle.std.specs.Prelude.{◌∷◌, ◌/◌, ◌%◌, ◌<◌}
use Rattle.laws.specs.Basics.{List, [], ℕ, eqb, get_or, pick}
use Rattle.std.specs.Int.Bits.{bit_xor}
use Rattle.laws.specs.Loops.{iter}

-- x³² + x²⁸ + x²⁷ + x²⁶ + x²⁵ + x²³ + x²² + x²⁰ + x¹⁹ + x¹⁸ + x¹⁴ + x¹³ + x¹¹ + x¹⁰ + x⁹ + x⁸ + x⁶ + 1 without its highest term; x³¹ is the lowest bit, 1 the highest.
abbrev pub polynomial : ℕ
polynomial = 2_197_175_160

abbrev pub ones : ℕ
ones = 4_294_967_295

-- One bit more is divided: the lowest one goes, and where it is set the polynomial is subtracted.
unfoldable pub bit_taken : ℕ → ℕ
bit_taken x = pick (eqb (x % 2) 0) (x / 2) (bit_xor (x / 2) polynomial)

-- A byte more is divided.
unfoldable pub byte_taken : ℕ → ℕ → ℕ
byte_taken x byte = iter 8 (λ k. bit_taken) (bit_xor x byte)

-- What is left of x and the bytes after it.
unfoldable pub remainder : ℕ → List ℕ → ℕ
remainder x [] = x
remainder x (byte ∷ l) = remainder (byte_taken x byte) l

unfoldable pub crc32c : List ℕ → ℕ
crc32c bytes = bit_xor (remainder ones bytes) ones

-- A list of bytes.
abbrev pub Bytes : List ℕ → Type 0
Bytes l = (k : ℕ) → get_or l k 0 < 256
