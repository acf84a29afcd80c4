-- `machine_merge::marks::wanted` meets its contract.
-- Assumes nothing.
use Rattle.laws.specs.Basics.{rules, lt-ltb, le-ltb}
use Rattle.machine_merge.specs.Buffered.{wanted}
use Rattle.machine_merge.proofs.marks.wanted.Goals as goal

pub returns-then-total-lt-MOST_KEPT : goal.returns-then-total-lt-MOST_KEPT
unfolding wanted
returns-then-total-lt-MOST_KEPT c =
    rw (lt-ltb _ _ c.if-total-lt-MOST_KEPT.true)

pub returns : goal.returns
unfolding wanted
returns c =
    rw (le-ltb _ _ c.if-total-lt-MOST_KEPT.false)
