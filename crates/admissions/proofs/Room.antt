-- The room that a deletion list needs.
-- Assumes nothing.
use Rattle.std.specs.Prelude.{◌*◌, ◌≤◌}
use Rattle.laws.specs.Basics.{ℕ, arith}
use native.Mathlib.Nat.{mul-le-mul_right}

-- It is a number that fits, for at most 16 processes.
pub twice_square : (n : ℕ) → n ≤ 16 → 2 * n * n ≤ 512
twice_square n h =
    let most : 2 * n * n ≤ 32 * n = mul-le-mul_right n (omega arith) in
    omega arith
