-- `machine_merge::marks::buffered_size` meets its contract.
-- Assumes nothing.
use Rattle.laws.specs.Basics.{sym, arith, rules}
use Rattle.machine_merge.proofs.{Standing.size_short, Standing.size_long}
use Rattle.machine_merge.proofs.marks.buffered_size.Goals as goal

pub returns-then-total-le-MOST_KEPT : goal.returns-then-total-le-MOST_KEPT
returns-then-total-le-MOST_KEPT c =
    (sym (size_short c.args.total c.if-total-le-MOST_KEPT.true), c.if-total-le-MOST_KEPT.true)

pub returns : goal.returns
returns c =
    (sym (size_long c.args.total c.if-total-le-MOST_KEPT.false), omega arith)
