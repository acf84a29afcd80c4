-- `machine_merge::marks::read_to` meets its contract.
-- Assumes nothing.
use Rattle.laws.specs.Basics.{arith, rules}
use Rattle.machine_merge.specs.Words.{read_to_of}
use Rattle.machine_merge.proofs.marks.read_to.Goals as goal

pub returns-then-count-gt-MOST_KEPT : goal.returns-then-count-gt-MOST_KEPT
unfolding read_to_of
returns-then-count-gt-MOST_KEPT c =
    omega (arith, c.half_at.ensures.0, c.if-count-gt-MOST_KEPT.true)

pub returns : goal.returns
unfolding read_to_of
returns c =
    omega (arith, c.half_at-2.ensures.0, c.if-count-gt-MOST_KEPT.false)
