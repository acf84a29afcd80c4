-- Sets as numbers: a bit tested, and one more bit that comes to a set.
-- Assumes nothing.
use Rattle.std.specs.Prelude.{◌≡◌, ◌||◌, ◌+◌, ◌*◌, ◌/◌, ◌%◌, ◌^◌, ◌<◌}
use Rattle.laws.specs.Basics.{refl, sym, ◌∙◌, ap, Bool, true, false, ℕ, zero, suc, arith, eqb, eq-eqb, ne_eqb, eqb-true, by_eq}
use native.Mathlib.Nat.{one-mul, zero-mul, mod-lt}
use lib.Bits.{bit_and, bit_or, and_block, and_zero_r, and_mask, or_shr, or_mod, or_shifted_r}
use lib.Pow.{pow_pos, split}
use Rattle.laws.specs.{Bits.bit, Bits.bit_one, Bits.bit_alone, Elements.same_test}

-- What is left of a set where one bit alone is looked at.
and_bit : (S f : ℕ) → bit_and S (2 ^ f) ≡ (S / 2 ^ f % 2) * 2 ^ f
and_bit S f =
    let one : 1 * 2 ^ f + 0 ≡ 2 ^ f = omega (arith, one-mul (2 ^ f)) in
    ap (λ (x : ℕ). bit_and x (2 ^ f)) (sym (split S f))
    ∙ ap (λ (y : ℕ). bit_and (S / 2 ^ f * 2 ^ f + S % 2 ^ f) y) (sym one)
    ∙ and_block f (S / 2 ^ f) 1 (S % 2 ^ f) 0 (mod-lt S (pow_pos f)) (pow_pos f)
    ∙ ap (λ (x : ℕ). bit_and (S / 2 ^ f) 1 * 2 ^ f + x) (and_zero_r (S % 2 ^ f))
    ∙ ap (λ (x : ℕ). x * 2 ^ f + 0) (and_mask (S / 2 ^ f) 1)
    ∙ omega arith

-- It is nothing exactly if the bit is not set.
pub and_none : (S f : ℕ) → bit_and S (2 ^ f) ≡ 0 → bit S f ≡ false
and_none S f e = by_eq (S / 2 ^ f % 2) 1
    (λ one. absurd (let z : 1 * 2 ^ f ≡ 0 = ap (λ (x : ℕ). x * 2 ^ f) (sym one) ∙ sym (and_bit S f) ∙ e in omega (arith, one-mul (2 ^ f), pow_pos f)))
    (λ ne. ne_eqb (S / 2 ^ f % 2) 1 ne)

pub and_some : (S f : ℕ) → (bit_and S (2 ^ f) ≡ 0 → ⊥) → bit S f ≡ true
and_some S f ne = by_eq (S / 2 ^ f % 2) 1
    (λ one. eq-eqb (S / 2 ^ f % 2) 1 one)
    (λ other. absurd (ne (and_bit S f ∙ ap (λ (x : ℕ). x * 2 ^ f) (let z : S / 2 ^ f % 2 ≡ 0 = omega arith in z) ∙ zero-mul (2 ^ f))))

-- A higher bit that comes to a set, or none.
pub or_higher : (S f : ℕ) → S < 2 ^ f → bit_or S (2 ^ f) ≡ S + 2 ^ f
or_higher S f less = ap (bit_or S) (sym (one-mul (2 ^ f))) ∙ or_shifted_r 1 f S less ∙ omega (arith, one-mul (2 ^ f))

-- The bits of two sets together.
low_or : (a b : ℕ) → a < 2 → b < 2 → eqb (bit_or a b) 1 ≡ (eqb a 1 || eqb b 1)
low_or zero zero x y = refl
low_or zero (suc zero) x y = refl
low_or zero (suc (suc b)) x y = absurd (omega arith)
low_or (suc zero) zero x y = refl
low_or (suc zero) (suc zero) x y = refl
low_or (suc zero) (suc (suc b)) x y = absurd (omega arith)
low_or (suc (suc a)) b x y = absurd (omega arith)

pub or_bits : (S T f : ℕ) → bit (bit_or S T) f ≡ (bit S f || bit T f)
or_bits S T f =
    ap (λ (x : ℕ). eqb (x % 2) 1) (or_shr S T f)
    ∙ ap (λ (x : ℕ). eqb x 1) (or_mod (S / 2 ^ f) (T / 2 ^ f) 1)
    ∙ low_or (S / 2 ^ f % 2) (T / 2 ^ f % 2) (omega arith) (omega arith)

pub alone : (i f : ℕ) → bit (2 ^ i) f ≡ eqb f i
alone i f = same_test (bit (2 ^ i) f) (eqb f i)
    (λ e. eq-eqb f i (bit_alone i f e))
    (λ e. rw (eqb-true f i e) (bit_one i))

-- A set with one more.
pub with_one : (S i f : ℕ) → bit (bit_or S (2 ^ i)) f ≡ (bit S f || eqb f i)
with_one S i f = or_bits S (2 ^ i) f ∙ ap (λ (b : Bool). bit S f || b) (alone i f)
