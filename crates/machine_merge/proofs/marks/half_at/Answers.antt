-- `machine_merge::marks::half_at` meets its contract.
-- Assumes nothing.
use Rattle.std.specs.Prelude.{◌+◌}
use Rattle.laws.specs.Basics.{ap, ℕ, arith, rules}
use Rattle.machine_merge.specs.Words.{half_at_of}
use Rattle.machine_merge.proofs.marks.half_at.Goals as goal

pub returns : goal.returns
unfolding half_at_of
returns c =
    (ap (λ (k : ℕ). k + 4096) c.name_at.ensures.0, omega (arith, c.name_at.ensures.1))
