-- `words::rows::vector::last_stored` meets its contract: where the own entry is 0, so is the difference.
-- Assumes nothing.
use Rattle.laws.specs.Basics.{ap, ℕ, arith, rules}
use Rattle.words.proofs.rows.vector.last_stored.Goals as goal

pub returns-then-own-eq0 : goal.returns-then-own-eq0
returns-then-own-eq0 c =
    ap (λ (n : ℕ). record { 0 = n }) (omega arith)
