-- The bits of a number: taken from the lowest on by halving, and a number made of the bits where a test holds.
use Rattle.std.specs.Prelude.{◌≡◌, Bool, true, false, eqb, ltb}
use Rattle.std.proofs.Math.Path.{refl}
use Rattle.std.proofs.Common.{sym, ◌∙◌, ap, div-one, add-zero, zero-add, pow-suc, add-one, ltb-true, ltb-false, pow_mono, pow-add}
use Prim.Native.Nat.{ℕ, zero, suc, ◌+◌, ◌-◌, ◌*◌, ◌/◌, ◌%◌, ◌^◌, ◌≤◌, ◌<◌}
use Rattle.std.proofs.Math.Nat.{div-div-eq-div-mul, div-eq_of_lt, add-mul-div_left, add-mul-mod_self_left, add-div_right}
use native.Mathlib.Omega.{arith}
use Rattle.std.proofs.Math.Pow.{pow_pos}
use Rattle.laws.specs.Choice.{pick, by_bool, by_eq}
use Rattle.laws.specs.Truth.{never_both}

-- Before the first bit, the number itself is left.
pub bits_all : (F : ℕ) → F ≡ F / (2 ^ 0)
bits_all F = sym (div-one F)

-- After bit i, half of what was left is left.
pub bits_next : (F i r : ℕ) → r ≡ F / (2 ^ i) → r / 2 ≡ F / (2 ^ (i + 1))
bits_next F i r e = rw (e, add-one, pow-suc) (div-div-eq-div-mul F (2 ^ i) 2)

-- Powers of two ascend.
pub pow_less : (i j : ℕ) → i < j → 2 ^ i < 2 ^ j
pow_less i j lt = omega (arith, pow_mono {i = suc i} {j = j} lt, pow-suc 2 i, pow_pos i)

-- The number whose bit f, for each f below n, is set exactly where the test holds; it has no other bits.
unfoldable pub bits_of : ℕ → (ℕ → Bool) → ℕ
bits_of zero t = 0
bits_of (suc n) t = bits_of n t + pick (t n) (2 ^ n) 0

-- Bit f of a number, as a test: what is left of it above its f lowest bits is odd.
abbrev pub bit : ℕ → ℕ → Bool
bit S f = eqb (S / (2 ^ f) % 2) 1

-- A number that is too small has no such bit.
pub bit_past : (S f : ℕ) → S < 2 ^ f → bit S f ≡ false
bit_past S f less = ap (λ (x : ℕ). eqb (x % 2) 1) (div-eq_of_lt less)

-- A higher bit that is added changes no lower one.
bit_under : (S f k : ℕ) → f < k → bit (S + 2 ^ k) f ≡ bit S f
bit_under S f k lt =
    let apart : k ≡ f + (1 + (k - f - 1)) = omega arith in
    let split : 2 ^ k ≡ 2 ^ f * (2 * 2 ^ (k - f - 1)) = ap (λ (j : ℕ). 2 ^ j) apart ∙ pow-add 2 f (1 + (k - f - 1)) ∙ ap (λ (x : ℕ). 2 ^ f * x) (pow-add 2 1 (k - f - 1)) in
    ap (λ (x : ℕ). bit (S + x) f) split
    ∙ ap (λ (x : ℕ). eqb (x % 2) 1) (add-mul-div_left S (2 * 2 ^ (k - f - 1)) (pow_pos f))
    ∙ ap (λ (x : ℕ). eqb x 1) (add-mul-mod_self_left (S / (2 ^ f)) 2 (2 ^ (k - f - 1)))

-- The bit that is added is set.
bit_added : (S k : ℕ) → S < 2 ^ k → bit (S + 2 ^ k) k ≡ true
bit_added S k less =
    ap (λ (x : ℕ). eqb (x % 2) 1) (add-div_right S (pow_pos k) ∙ ap (λ (x : ℕ). x + 1) (div-eq_of_lt less))

-- A power of two has one bit alone.
pub bit_one : (f : ℕ) → bit (2 ^ f) f ≡ true
bit_one f = ap (λ (x : ℕ). bit x f) (sym (zero-add (2 ^ f))) ∙ bit_added 0 f (pow_pos f)

pub bit_alone : (f q : ℕ) → bit (2 ^ f) q ≡ true → q ≡ f
bit_alone f q e = by_eq q f (λ c. c) (λ ne. absurd (by_bool (ltb q f)
    (λ d. never_both (bit (2 ^ f) q) e (ap (λ (x : ℕ). bit x q) (sym (zero-add (2 ^ f))) ∙ bit_under 0 q f (ltb-true q f d) ∙ bit_past 0 q (pow_pos q)))
    (λ d. never_both (bit (2 ^ f) q) e (bit_past (2 ^ f) q (pow_less f q (omega (arith, ltb-false q f d)))))))

module _ (t : ℕ → Bool) where
  -- A number of n bits.
  pub bits_less : (n : ℕ) → bits_of n t < 2 ^ n
  unfolding bits_of
  bits_less zero = omega arith
  bits_less (suc n) = by_bool (t n)
      (λ e. rw (e, pow-suc) (omega (arith, bits_less n)))
      (λ e. rw (e, pow-suc) (omega (arith, bits_less n)))

  -- Before the first test there is no bit; after test i there is one bit more to look at.
  pub bits_zero : 0 ≡ bits_of 0 t
  unfolding bits_of
  bits_zero = refl

  pub bits_more : (i S b : ℕ) → S ≡ bits_of i t → b ≡ pick (t i) (2 ^ i) 0 → S + b ≡ bits_of (i + 1) t
  unfolding bits_of
  bits_more i S b e d = rw (add-one, e, d)

  -- Bit f is set exactly where the test holds, and no bit at n or above.
  pub bits_at : (n f : ℕ) → f < n → bit (bits_of n t) f ≡ t f
  unfolding bits_of
  bits_at zero f lt = absurd (omega arith)
  bits_at (suc n) f lt = by_eq f n
      (λ c. rw c (by_bool (t n)
      (λ e. rw e (bit_added (bits_of n t) n (bits_less n)))
      (λ e. rw (e, add-zero) (bit_past (bits_of n t) n (bits_less n)))))
      (λ c. by_bool (t n)
      (λ e. rw e (bit_under (bits_of n t) f n (omega arith) ∙ bits_at n f (omega arith)))
      (λ e. rw (e, add-zero) (bits_at n f (omega arith))))

  pub bits_past : (n f : ℕ) → n ≤ f → bit (bits_of n t) f ≡ false
  bits_past n f le = bit_past (bits_of n t) f (omega (arith, bits_less n, pow_mono {i = n} {j = f} le))

  -- The number is 0 where the test never holds, and only there.
  pub bits_none : (n : ℕ) → ((f : ℕ) → f < n → t f ≡ false) → bits_of n t ≡ 0
  unfolding bits_of
  bits_none zero h = refl
  bits_none (suc n) h = rw (h n (omega arith)) (omega (arith, bits_none n (λ f lt. h f (omega arith))))

  pub bits_some : (n f : ℕ) → f < n → t f ≡ true → 1 ≤ bits_of n t
  unfolding bits_of
  bits_some zero f lt e = absurd (omega arith)
  bits_some (suc n) f lt e = by_eq f n
      (λ c. rw (rw c at e) (omega (arith, pow_pos n)))
      (λ c. omega (arith, bits_some n f (omega arith) e))
