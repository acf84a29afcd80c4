-- `machine_judge::go_on` meets its contract.
-- Assumes nothing.
use Rattle.laws.specs.Basics.{arith}
use Rattle.machine_judge.proofs.{Standing.onward_printed, Standing.onward_read}
use Rattle.machine_judge.proofs.go_on.Goals as goal

pub is_settled-requires : goal.is_settled-requires
is_settled-requires c =
    omega (arith, c.requires.1, c.requires.0.1)

pub returns-then-is_settled : goal.returns-then-is_settled
returns-then-is_settled c =
    onward_printed _ _ _ _ _ c.is_settled.ensures c.if-is_settled.true c.print_verdict.ensures

pub returns : goal.returns
returns c =
    onward_read _ _ _ _ _ c.is_settled.ensures c.if-is_settled.false c.read_more.ensures
