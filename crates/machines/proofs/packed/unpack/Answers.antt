-- `machines::packed::unpack` meets its contract, by its tests.
-- Assumes nothing.
use Rattle.laws.specs.Basics.{eq-eqb, ne_eqb}
use Rattle.machines.specs.Packed.{unpacked}
use Rattle.machines.proofs.packed.unpack.Goals as goal

pub returns-then-kind-eq1 : goal.returns-then-kind-eq1
unfolding unpacked
returns-then-kind-eq1 c =
    rw (eq-eqb _ _ c.if-kind-eq1.true)

pub returns-then-kind-eq2 : goal.returns-then-kind-eq2
unfolding unpacked
returns-then-kind-eq2 c =
    rw (ne_eqb _ _ c.if-kind-eq1.false, eq-eqb _ _ c.if-kind-eq2.true)

pub returns-then-kind-eq3 : goal.returns-then-kind-eq3
unfolding unpacked
returns-then-kind-eq3 c =
    rw (ne_eqb _ _ c.if-kind-eq1.false, ne_eqb _ _ c.if-kind-eq2.false, eq-eqb _ _ c.if-kind-eq3.true)

pub returns-then-kind-eq4 : goal.returns-then-kind-eq4
unfolding unpacked
returns-then-kind-eq4 c =
    rw (ne_eqb _ _ c.if-kind-eq1.false, ne_eqb _ _ c.if-kind-eq2.false, ne_eqb _ _ c.if-kind-eq3.false, eq-eqb _ _ c.if-kind-eq4.true)

pub returns : goal.returns
unfolding unpacked
returns c =
    rw (ne_eqb _ _ c.if-kind-eq1.false, ne_eqb _ _ c.if-kind-eq2.false, ne_eqb _ _ c.if-kind-eq3.false, ne_eqb _ _ c.if-kind-eq4.false)
