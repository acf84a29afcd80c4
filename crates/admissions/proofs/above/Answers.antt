-- `admissions::above` meets its contract: no bit of a set is at 32 or above.
-- Assumes nothing.
use Rattle.laws.specs.Basics.{sym, arith}
use native.Mathlib.Nat.{div-eq_of_lt, pow-le-pow_right}
use Rattle.admissions.proofs.above.Goals as goal

pub returns-else-p-lt32 : goal.returns-else-p-lt32
returns-else-p-lt32 c =
    sym (div-eq_of_lt (omega (arith, c.ranges.set.fits, pow-le-pow_right {n = 2} (omega arith) {i = 32} {j = c.args.p} c.if-p-lt32.false)))
