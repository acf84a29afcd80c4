-- A failed set's bits at n and above: what is left once the lowest n are gone, and that an accepted set has none.
-- Assumes nothing.
use Prim.{tt}
use Rattle.std.specs.Prelude.{◌≡◌, ◌/◌, ◌^◌, ◌≤◌, ◌<◌, Ok, Err}
use Rattle.laws.specs.Basics.{sym, ◌∙◌, false≢true, ℕ, arith, leb, le-leb, lt-leb, leb-true, leb-false, by_bool}
use native.Mathlib.Nat.{div-eq_of_lt, le-div_iff_mul-le, pow-le-pow_right, one-mul}
use Rattle.admissions.specs.Admissions.{recovery_admission_of}

some_power : (n : ℕ) → 0 < 2 ^ n
some_power n = pow-le-pow_right {n = 2} (omega arith) {i = 0} {j = n} (omega arith)

-- Something is left exactly if the number is 2 to the power n or more.
pub bits_left : (F n r : ℕ) → r ≡ F / (2 ^ n) → leb 1 r ≡ leb (2 ^ n) F
bits_left F n r e = by_bool (leb (2 ^ n) F)
    (λ q. le-leb 1 r (rw e ((le-div_iff_mul-le {k = 2 ^ n} {x = 1} {y = F} (some_power n)).1 (rw one-mul (leb-true _ _ q)))) ∙ sym q)
    (λ q. let none : r ≡ 0 = e ∙ div-eq_of_lt (leb-false _ _ q) in lt-leb 1 r (omega arith) ∙ sym q)

-- A failed set that is not refused is one of processes of the run, so it fits into 16 bits.
pub accepted_inside : (n F : ℕ) → recovery_admission_of n F ≡ Ok tt → F < 2 ^ n
unfolding recovery_admission_of
accepted_inside n F e = by_bool (leb (2 ^ n) F)
    (λ q. let no : Err _ ≡ Ok tt = rw q at e in absurd (false≢true cc))
    (λ q. leb-false _ _ q)

pub accepted_fits : (n F : ℕ) → n ≤ 16 → recovery_admission_of n F ≡ Ok tt → F < 65536
accepted_fits n F few e = omega (arith, accepted_inside n F e, pow-le-pow_right {n = 2} (omega arith) {i = n} {j = 16} few)
