-- `machine_judge::wanted` meets its contract.
-- Assumes nothing.
use Rattle.laws.specs.Basics.{eq-eqb, ne_eqb}
use Rattle.machine_judge.specs.Judging.{wanted}
use Rattle.machine_judge.proofs.wanted.Goals as goal

pub returns-then-buffered-eq0 : goal.returns-then-buffered-eq0
unfolding wanted
returns-then-buffered-eq0 c =
    rw (eq-eqb _ _ c.if-buffered-eq0.true)

pub returns : goal.returns
unfolding wanted
returns c =
    rw (ne_eqb _ _ c.if-buffered-eq0.false)
