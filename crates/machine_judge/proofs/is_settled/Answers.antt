-- `machine_judge::is_settled` meets its contract, by its tests.
-- Assumes nothing.
use Rattle.laws.specs.Basics.{arith}
use Rattle.machine_judge.proofs.Standing.{settled_none, settled_low, settled_high, settled_long}
use Rattle.machine_judge.proofs.is_settled.Goals as goal

pub returns-then-buffered-eq0 : goal.returns-then-buffered-eq0
returns-then-buffered-eq0 c =
    settled_none c.args.input.now c.args.buffered c.requires c.if-buffered-eq0.true

pub returns-then-input-lt1 : goal.returns-then-input-lt1
returns-then-input-lt1 c =
    settled_low c.args.input.now c.args.buffered c.requires (omega arith) c.if-input-lt1.true

pub returns-then-input-gt-MOST : goal.returns-then-input-gt-MOST
returns-then-input-gt-MOST c =
    settled_high c.args.input.now c.args.buffered c.requires (omega arith) c.if-input-lt1.false c.if-input-gt-MOST.true

pub returns : goal.returns
returns c =
    settled_long c.args.input.now c.args.buffered c.requires (omega arith) c.if-input-lt1.false c.if-input-gt-MOST.false
