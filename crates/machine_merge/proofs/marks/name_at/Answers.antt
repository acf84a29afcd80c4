-- `machine_merge::marks::name_at` meets its contract.
-- Assumes nothing.
use Rattle.laws.specs.Basics.{refl, arith, eq-eqb, ne_eqb}
use Rattle.machine_merge.specs.Words.{name_at}
use Rattle.machine_merge.proofs.marks.name_at.Goals as goal

pub returns-then-half-eq0 : goal.returns-then-half-eq0
unfolding name_at
returns-then-half-eq0 c =
    (rw (eq-eqb c.args.half 0 c.if-half-eq0.true) refl, omega arith)

pub returns : goal.returns
unfolding name_at
returns c =
    (rw (ne_eqb c.args.half 0 c.if-half-eq0.false) refl, omega arith)
