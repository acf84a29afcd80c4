-- What is left of bytes: of bytes after bytes, and that it has 32 bits.
-- Assumes nothing.
use Rattle.std.specs.Prelude.{◌≡◌, ◌∷◌, ◌++◌, ◌/◌, ◌%◌, ◌<◌}
use Rattle.laws.specs.Basics.{refl, List, [], ℕ, zero, suc, arith, eqb, by_bool}
use lib.Bits.{bit_xor, xor_lt}
use Rattle.laws.specs.Loops.{iter}
use Rattle.library_readers.specs.saved.Castagnoli.{polynomial, bit_taken, byte_taken, remainder, Bytes}

-- One byte more.
pub remainder_more : (x : ℕ) (l : List ℕ) (byte : ℕ) → remainder x (l ++ byte ∷ []) ≡ byte_taken (remainder x l) byte
unfolding remainder
remainder_more x [] byte = refl
remainder_more x (b ∷ l) byte = remainder_more (byte_taken x b) l byte

pub remainder_append : (x : ℕ) (l m : List ℕ) → remainder x (l ++ m) ≡ remainder (remainder x l) m
unfolding remainder
remainder_append x [] m = refl
remainder_append x (b ∷ l) m = remainder_append (byte_taken x b) l m

-- 32 bits.
abbrev pub Short : ℕ → Type 0
Short x = x < 4_294_967_296

pub xor_short : (a b : ℕ) → Short a → Short b → Short (bit_xor a b)
xor_short a b h g = xor_lt 32 a b h g

pub bit_short : (x : ℕ) → Short x → Short (bit_taken x)
unfolding bit_taken
bit_short x h = by_bool (eqb (x % 2) 0)
    (λ e. rw e (omega arith))
    (λ e. rw e (xor_short (x / 2) polynomial (omega arith) (omega arith)))

pub bits_short : (n x : ℕ) → Short x → Short (iter n (λ k. bit_taken) x)
unfolding iter
bits_short zero x h = h
bits_short (suc n) x h = bit_short (iter n (λ k. bit_taken) x) (bits_short n x h)

pub byte_short : (x byte : ℕ) → Short x → byte < 256 → Short (byte_taken x byte)
unfolding byte_taken
byte_short x byte h g = bits_short 8 (bit_xor x byte) (xor_short x byte h (omega arith))

pub remainder_short : (x : ℕ) (l : List ℕ) → Short x → Bytes l → Short (remainder x l)
unfolding remainder
remainder_short x [] h g = h
remainder_short x (b ∷ l) h g = remainder_short (byte_taken x b) l (byte_short x b h (g 0)) (λ k. g (suc k))
