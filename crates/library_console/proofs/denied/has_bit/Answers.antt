-- `library_console::denied::has_bit` meets its contract. Assumes nothing.
use Rattle.std.specs.Prelude.{◌%◌}
use Rattle.laws.specs.Basics.{ap, ℕ, eqb, rules}
use Rattle.library_console.proofs.denied.has_bit.Goals as goal

pub returns : goal.returns
returns c =
    ap (λ (x : ℕ). eqb (x % 2) 1) c.above-left.ensures
