-- Bytes that differ within four in a row have different remainders, and so different checksums: four bytes after a remainder are 32 steps of the division of a
-- number of 32 bits, and every step can be taken back.
-- Assumes nothing.
use Rattle.std.specs.Prelude.{◌≡◌, ◌∷◌, ◌++◌, ◌+◌, ◌*◌, ◌/◌, ◌%◌, ◌^◌, ◌≤◌, ◌<◌}
use Rattle.laws.specs.Basics.{refl, sym, ◌∙◌, ap, List, [], ℕ, zero, suc, arith, eqb, length, eqb-true, eqb-false, by_bool}
use native.Mathlib.Nat.{pow-suc, div-eq_of_lt, mul_comm}
use lib.Bits.{bit_xor, differ, xor_step, xor_comm, xor_shr, xor_self, xor_shifted, xor_zero_r}
use Rattle.laws.specs.Loops.{iter}
use Rattle.library_readers.specs.saved.Castagnoli.{polynomial, ones, bit_taken, byte_taken, remainder, crc32c, Bytes}
use Rattle.library_readers.proofs.saved.Division.{Short, xor_short, bits_short, byte_short, remainder_short, remainder_append}

-- Two bits of which each differs from a third in the same way are equal.
differ_same : (x y c : ℕ) → x < 2 → y < 2 → c < 2 → differ x c ≡ differ y c → x ≡ y
differ_same zero zero c h g f e = refl
differ_same zero (suc zero) zero h g f e = e
differ_same zero (suc zero) (suc zero) h g f e = sym e
differ_same (suc zero) zero zero h g f e = e
differ_same (suc zero) zero (suc zero) h g f e = sym e
differ_same (suc zero) (suc zero) c h g f e = refl
differ_same zero (suc zero) (suc (suc c)) h g f e = absurd (omega arith)
differ_same (suc zero) zero (suc (suc c)) h g f e = absurd (omega arith)
differ_same (suc (suc x)) y c h g f e = absurd (omega arith)
differ_same zero (suc (suc y)) c h g f e = absurd (omega arith)
differ_same (suc zero) (suc (suc y)) c h g f e = absurd (omega arith)

differ_bit : (x c : ℕ) → x < 2 → c < 2 → differ x c < 2
differ_bit zero c h g = g
differ_bit (suc x) zero h g = h
differ_bit (suc zero) (suc zero) h g = omega arith
differ_bit (suc zero) (suc (suc c)) h g = absurd (omega arith)
differ_bit (suc (suc x)) (suc c) h g = absurd (omega arith)

-- The exclusive or with one number is taken back.
xor_same : (k a b c : ℕ) → a < 2 ^ k → b < 2 ^ k → bit_xor a c ≡ bit_xor b c → a ≡ b
xor_same zero a b c h g e = omega arith
xor_same (suc k) a b c h g e =
    let d = differ_bit (a % 2) (c % 2) (omega arith) (omega arith) in
    let f = differ_bit (b % 2) (c % 2) (omega arith) (omega arith) in
    let both : bit_xor (a / 2) (c / 2) * 2 + differ (a % 2) (c % 2) ≡ bit_xor (b / 2) (c / 2) * 2 + differ (b % 2) (c % 2) = sym (xor_step a c) ∙ e ∙ xor_step b c in
    let upper : a / 2 ≡ b / 2 = xor_same k (a / 2) (b / 2) (c / 2) (omega (arith, pow-suc 2 k)) (omega (arith, pow-suc 2 k)) (omega arith) in
    let lower : a % 2 ≡ b % 2 = differ_same (a % 2) (b % 2) (c % 2) (omega arith) (omega arith) (omega arith) (omega arith) in
    omega arith

xor_back : (a b c : ℕ) → Short a → Short b → bit_xor a c ≡ bit_xor b c → a ≡ b
xor_back a b c h g e = xor_same 32 a b c h g e

-- Where the lowest bit was set, the highest is, since it is the polynomial's.
high_set : (a : ℕ) → a < 2_147_483_648 → bit_xor a polynomial / 2_147_483_648 ≡ 1
high_set a h = xor_shr a polynomial 31 ∙ ap (λ (x : ℕ). bit_xor x 1) (div-eq_of_lt h)

bit_even : (x : ℕ) → x % 2 ≡ 0 → bit_taken x ≡ x / 2
unfolding bit_taken
bit_even x e = rw e

bit_odd : (x : ℕ) → x % 2 ≡ 1 → bit_taken x ≡ bit_xor (x / 2) polynomial
unfolding bit_taken
bit_odd x e = rw e

pub by_parity : {P : Type 0} (x : ℕ) → (x % 2 ≡ 0 → P) → (x % 2 ≡ 1 → P) → P
by_parity x f g = by_bool (eqb (x % 2) 0) (λ e. f (eqb-true (x % 2) 0 e)) (λ e. let ne = eqb-false (x % 2) 0 e in g (omega arith))

bit_back : (x y : ℕ) → Short x → Short y → bit_taken x ≡ bit_taken y → x ≡ y
bit_back x y h g e =
    by_parity x
    (λ p. by_parity y
    (λ q. let same : x / 2 ≡ y / 2 = sym (bit_even x p) ∙ e ∙ bit_even y q in omega arith)
    (λ q. let same : x / 2 ≡ bit_xor (y / 2) polynomial = sym (bit_even x p) ∙ e ∙ bit_odd y q in
    let high = high_set (y / 2) (omega arith) in absurd (omega arith)))
    (λ p. by_parity y
    (λ q. let same : y / 2 ≡ bit_xor (x / 2) polynomial = sym (bit_even y q) ∙ sym e ∙ bit_odd x p in
    let high = high_set (x / 2) (omega arith) in absurd (omega arith))
    (λ q. let same : x / 2 ≡ y / 2 = xor_back (x / 2) (y / 2) polynomial (omega arith) (omega arith) (sym (bit_odd x p) ∙ e ∙ bit_odd y q) in omega arith))

bits_back : (n x y : ℕ) → Short x → Short y → iter n (λ k. bit_taken) x ≡ iter n (λ k. bit_taken) y → x ≡ y
unfolding iter
bits_back zero x y h g e = e
bits_back (suc n) x y h g e = bits_back n x y h g (bit_back (iter n (λ k. bit_taken) x) (iter n (λ k. bit_taken) y) (bits_short n x h) (bits_short n y g) e)

-- Eight steps, and eight steps that many times.
unfoldable pub eight : ℕ → ℕ
eight = iter 8 (λ k. bit_taken)

unfoldable pub eights : ℕ → ℕ → ℕ
eights zero x = x
eights (suc n) x = eights n (eight x)

eight_back : (x y : ℕ) → Short x → Short y → eight x ≡ eight y → x ≡ y
unfolding eight
eight_back x y h g e = bits_back 8 x y h g e

eight_short : (x : ℕ) → Short x → Short (eight x)
unfolding eight
eight_short x h = bits_short 8 x h

eights_back : (n x y : ℕ) → Short x → Short y → eights n x ≡ eights n y → x ≡ y
unfolding eights
eights_back zero x y h g e = e
eights_back (suc n) x y h g e = eight_back x y h g (eights_back n (eight x) (eight y) (eight_short x h) (eight_short y g) e)

byte_is : (x a : ℕ) → byte_taken x a ≡ eight (bit_xor x a)
unfolding byte_taken eight
byte_is x a = refl

-- The exclusive or of three numbers.
differ_step : (x y z : ℕ) → x < 2 → y < 2 → z < 2 → differ (differ x y) z ≡ differ x (differ y z)
differ_step zero y z h g f = refl
differ_step (suc zero) zero z h g f = refl
differ_step (suc zero) (suc zero) zero h g f = refl
differ_step (suc zero) (suc zero) (suc zero) h g f = refl
differ_step (suc zero) (suc zero) (suc (suc z)) h g f = absurd (omega arith)
differ_step (suc zero) (suc (suc y)) z h g f = absurd (omega arith)
differ_step (suc (suc x)) y z h g f = absurd (omega arith)

-- Half of an exclusive or, and its lowest bit.
module _ (a b : ℕ) where
  low : differ (a % 2) (b % 2) < 2
  low = differ_bit (a % 2) (b % 2) (omega arith) (omega arith)

  xor_half : bit_xor a b / 2 ≡ bit_xor (a / 2) (b / 2)
  xor_half = omega (arith, xor_step a b, low)

  xor_odd : bit_xor a b % 2 ≡ differ (a % 2) (b % 2)
  xor_odd = omega (arith, xor_step a b, low)

xor_inverted : (k a b c : ℕ) → a < 2 ^ k → b < 2 ^ k → c < 2 ^ k → bit_xor (bit_xor a b) c ≡ bit_xor a (bit_xor b c)
xor_inverted zero a b c h g f =
    let none-a : a ≡ 0 = omega arith in
    let none-b : b ≡ 0 = omega arith in
    rw (none-a, none-b)
xor_inverted (suc k) a b c h g f =
    let upper = xor_inverted k (a / 2) (b / 2) (c / 2) (omega (arith, pow-suc 2 k)) (omega (arith, pow-suc 2 k)) (omega (arith, pow-suc 2 k)) in
    let lower = differ_step (a % 2) (b % 2) (c % 2) (omega arith) (omega arith) (omega arith) in
    let left : bit_xor (bit_xor a b) c ≡ bit_xor (bit_xor (a / 2) (b / 2)) (c / 2) * 2 + differ (differ (a % 2) (b % 2)) (c % 2) =
    xor_step (bit_xor a b) c ∙ ap (λ (x : ℕ). bit_xor x (c / 2) * 2 + differ (bit_xor a b % 2) (c % 2)) (xor_half a b)
    ∙ ap (λ (x : ℕ). bit_xor (bit_xor (a / 2) (b / 2)) (c / 2) * 2 + differ x (c % 2)) (xor_odd a b) in
    let right : bit_xor a (bit_xor b c) ≡ bit_xor (a / 2) (bit_xor (b / 2) (c / 2)) * 2 + differ (a % 2) (differ (b % 2) (c % 2)) =
    xor_step a (bit_xor b c) ∙ ap (λ (x : ℕ). bit_xor (a / 2) x * 2 + differ (a % 2) (bit_xor b c % 2)) (xor_half b c)
    ∙ ap (λ (x : ℕ). bit_xor (a / 2) (bit_xor (b / 2) (c / 2)) * 2 + differ (a % 2) x) (xor_odd b c) in
    left ∙ ap (λ (x : ℕ). x * 2 + differ (differ (a % 2) (b % 2)) (c % 2)) upper ∙ ap (λ (x : ℕ). bit_xor (a / 2) (bit_xor (b / 2) (c / 2)) * 2 + x) lower ∙ sym right

xor_three : (a b c : ℕ) → Short a → Short b → Short c → bit_xor (bit_xor a b) c ≡ bit_xor a (bit_xor b c)
xor_three a b c h g f = xor_inverted 32 a b c h g f

-- A step of x with something above its lowest bit is a step of x with half of that.
differ_none : (x : ℕ) → differ x 0 ≡ x
differ_none zero = refl
differ_none (suc x) = refl

module _ (x c : ℕ) (short : Short x) (less : c < 2_147_483_648) where
  over_odd : bit_xor x (2 * c) % 2 ≡ x % 2
  over_odd = let e : 2 * c % 2 ≡ 0 = omega arith in xor_odd x (2 * c) ∙ ap (differ (x % 2)) e ∙ differ_none (x % 2)

  over_half : bit_xor x (2 * c) / 2 ≡ bit_xor (x / 2) c
  over_half = let e : 2 * c / 2 ≡ c = omega arith in xor_half x (2 * c) ∙ ap (bit_xor (x / 2)) e

  bit_over : bit_taken (bit_xor x (2 * c)) ≡ bit_xor (bit_taken x) c
  bit_over = by_parity x
      (λ p. bit_even (bit_xor x (2 * c)) (over_odd ∙ p) ∙ over_half ∙ ap (λ (y : ℕ). bit_xor y c) (sym (bit_even x p)))
      (λ p. bit_odd (bit_xor x (2 * c)) (over_odd ∙ p) ∙ ap (λ (y : ℕ). bit_xor y polynomial) over_half
      ∙ xor_three (x / 2) c polynomial (omega arith) (omega arith) (omega arith) ∙ ap (bit_xor (x / 2)) (xor_comm c polynomial)
      ∙ sym (xor_three (x / 2) polynomial c (omega arith) (omega arith) (omega arith)) ∙ ap (λ (y : ℕ). bit_xor y c) (sym (bit_odd x p)))

doubled : ℕ → ℕ → ℕ
doubled zero c = c
doubled (suc n) c = doubled n (2 * c)

doubled_least : (n c : ℕ) → c ≤ doubled n c
unfolding doubled
doubled_least zero c = omega arith
doubled_least (suc n) c = omega (arith, doubled_least n (2 * c))

bits_over : (n x c : ℕ) → Short x → Short (doubled n c) → iter n (λ k. bit_taken) (bit_xor x (doubled n c)) ≡ bit_xor (iter n (λ k. bit_taken) x) c
unfolding iter doubled
bits_over zero x c h g = refl
bits_over (suc n) x c h g =
    ap bit_taken (bits_over n x (2 * c) h g) ∙ bit_over (iter n (λ k. bit_taken) x) c (bits_short n x h) (omega (arith, doubled_least n (2 * c)))

eight_over : (x c : ℕ) → Short x → c < 16_777_216 → eight (bit_xor x (256 * c)) ≡ bit_xor (eight x) c
unfolding eight doubled
eight_over x c h g =
    let e : doubled 8 c ≡ 256 * c = omega arith in
    ap (λ (y : ℕ). iter 8 (λ k. bit_taken) (bit_xor x y)) (sym e) ∙ bits_over 8 x c h (rw e (omega arith))

-- The number that bytes are, the lowest first.
unfoldable pub number : List ℕ → ℕ
number [] = 0
number (a ∷ l) = a + 256 * number l

-- One more than the greatest number of that many bytes.
bound : ℕ → ℕ
bound zero = 1
bound (suc n) = 256 * bound n

bound_up : (m n : ℕ) → m ≤ n → bound m ≤ bound n
unfolding bound
bound_up zero zero h = omega arith
bound_up zero (suc n) h = let e = bound_up zero n (omega arith) in omega arith
bound_up (suc m) zero h = absurd (omega arith)
bound_up (suc m) (suc n) h = let e = bound_up m n (omega arith) in omega arith

number_below : (l : List ℕ) → Bytes l → number l < bound (length l)
unfolding number bound
number_below [] small = omega arith
number_below (a ∷ l) small = let e = number_below l (λ k. small (suc k)) in let f = small 0 in omega arith

three_below : (l : List ℕ) → Bytes l → length l ≤ 3 → number l < 16_777_216
unfolding bound
three_below l small few = omega (arith, number_below l small, bound_up (length l) 3 few)

four_short : (l : List ℕ) → Bytes l → length l ≤ 4 → Short (number l)
unfolding bound
four_short l small few = omega (arith, number_below l small, bound_up (length l) 4 few)

number_back : (l m : List ℕ) → Bytes l → Bytes m → length l ≡ length m → number l ≡ number m → l ≡ m
unfolding number
number_back [] [] p q n e = refl
number_back [] (b ∷ m) p q n e = absurd (omega arith)
number_back (a ∷ l) [] p q n e = absurd (omega arith)
number_back (a ∷ l) (b ∷ m) p q n e =
    let f = p 0 in
    let g = q 0 in
    let first : a ≡ b = omega arith in
    let others : l ≡ m = number_back l m (λ k. p (suc k)) (λ k. q (suc k)) (omega arith) (omega arith) in
    rw (first, others)

-- A byte, and a number above it.
above : (a p : ℕ) → a < 256 → bit_xor a (256 * p) ≡ a + 256 * p
above a p less = xor_comm a (256 * p) ∙ ap (λ (y : ℕ). bit_xor y a) (mul_comm 256 p) ∙ xor_shifted p 8 a less ∙ omega arith

-- Up to four bytes are divided as the number that they are.
pub divided : (l : List ℕ) (x : ℕ) → Short x → Bytes l → length l ≤ 4 → remainder x l ≡ eights (length l) (bit_xor x (number l))
unfolding remainder eights number
divided [] x h small few = sym (xor_zero_r x)
divided (a ∷ l) x h small few =
    let p = number l in
    let byte = small 0 in
    let low = three_below l (λ k. small (suc k)) (omega arith) in
    let taken = xor_short x a h (omega arith) in
    let next = byte_is x a in
    divided l (byte_taken x a) (byte_short x a h byte) (λ k. small (suc k)) (omega arith)
    ∙ ap (λ (y : ℕ). eights (length l) (bit_xor y p)) next
    ∙ ap (eights (length l)) (sym (eight_over (bit_xor x a) p taken low) ∙ ap eight (xor_three x a (256 * p) h (omega arith) (omega arith) ∙ ap (bit_xor x) (above a p byte)))

remainder_back : (l : List ℕ) (x y : ℕ) → Short x → Short y → Bytes l → remainder x l ≡ remainder y l → x ≡ y
unfolding remainder
remainder_back [] x y h g bytes e = e
remainder_back (a ∷ l) x y h g bytes e =
    let same = remainder_back l (byte_taken x a) (byte_taken y a) (byte_short x a h (bytes 0)) (byte_short y a g (bytes 0)) (λ k. bytes (suc k)) e in
    xor_back x y a h g (eight_back (bit_xor x a) (bit_xor y a) (xor_short x a h (omega (arith, bytes 0))) (xor_short y a g (omega (arith, bytes 0))) (sym (byte_is x a) ∙ same ∙ byte_is y a))

-- Bytes that differ within four in a row, with the same before and after them.
module _ (before rest l m : List ℕ) (p : Bytes before) (q : Bytes rest) (small : Bytes l) (others : Bytes m) (same : length l ≡ length m) (few : length l ≤ 4) where
  abbrev reached : ℕ
  reached = remainder ones before

  reached_short : Short reached
  reached_short = remainder_short ones before (omega arith) p

  split : (k : List ℕ) → remainder ones (before ++ k ++ rest) ≡ remainder (remainder reached k) rest
  split k = remainder_append ones (before ++ k) rest ∙ ap (λ (x : ℕ). remainder x rest) (remainder_append ones before k)

  pub four_bytes : remainder ones (before ++ l ++ rest) ≡ remainder ones (before ++ m ++ rest) → l ≡ m
  four_bytes e =
      let all = remainder_back rest (remainder reached l) (remainder reached m) (remainder_short reached l reached_short small) (remainder_short reached m reached_short others) q
      (sym (split l) ∙ e ∙ split m) in
      let left = divided l reached reached_short small few in
      let right = divided m reached reached_short others (rw (sym same) few) ∙ ap (λ (n : ℕ). eights n (bit_xor reached (number m))) (sym same) in
      let one = four_short l small few in
      let two = four_short m others (rw (sym same) few) in
      let blocks = eights_back (length l) (bit_xor reached (number l)) (bit_xor reached (number m)) (xor_short reached (number l) reached_short one)
      (xor_short reached (number m) reached_short two) (sym left ∙ all ∙ right) in
      number_back l m small others same
      (xor_back (number l) (number m) reached one two (xor_comm (number l) reached ∙ blocks ∙ xor_comm reached (number m)))

-- What is left of bytes with their checksum after them is the same for all bytes.
pub with_sum : (bytes sum : List ℕ) → Bytes bytes → Bytes sum → length sum ≡ 4 → number sum ≡ crc32c bytes → remainder ones (bytes ++ sum) ≡ eights 4 ones
unfolding crc32c
with_sum bytes sum p q four e =
    let r = remainder ones bytes in
    let h : Short r = remainder_short ones bytes (omega arith) p in
    remainder_append ones bytes sum ∙ divided sum r h q (omega arith) ∙ ap (λ (n : ℕ). eights n (bit_xor r (number sum))) four
    ∙ ap (λ (y : ℕ). eights 4 (bit_xor r y)) e ∙ ap (eights 4) (sym (xor_three r r ones h h (omega arith)) ∙ ap (λ (y : ℕ). bit_xor y ones) (xor_self r))
