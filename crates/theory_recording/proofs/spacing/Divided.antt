-- A division that answers nothing where the divisor is 0, and 0 in that case, is one chosen by the divisor.
-- Assumes nothing.
use Rattle.std.specs.Prelude.{◌≡◌, ◌<◌, unwrap_or, SomeIff}
use Rattle.laws.specs.Basics.{Option, None, Some, ℕ, arith, eqb, eq-eqb, ne_eqb, pick}

pub by_divisor : (o : Option ℕ) (d v : ℕ) {r : ℕ} → SomeIff o (0 < d) v → r ≡ unwrap_or o 0 → r ≡ pick (eqb d 0) 0 v
by_divisor None d v h e = rw (e, eq-eqb d 0 (omega (arith, h)))
by_divisor (Some x) d v h e = rw (e, h.1, ne_eqb d 0 (λ z. omega (arith, h.0)))
