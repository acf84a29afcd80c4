-- `machine_merge::marks::word_at` meets its contract.
-- Assumes nothing.
use Rattle.laws.specs.Basics.{eq-eqb, ne_eqb}
use Rattle.machine_merge.specs.Words.{word_at}
use Rattle.machine_merge.proofs.marks.word_at.Goals as goal

pub returns-then-half-eq0 : goal.returns-then-half-eq0
unfolding word_at
returns-then-half-eq0 c =
    rw (eq-eqb _ _ c.if-half-eq0.true)

pub returns : goal.returns
unfolding word_at
returns c =
    rw (ne_eqb _ _ c.if-half-eq0.false)
