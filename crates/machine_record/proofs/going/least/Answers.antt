-- `machine_record::going::least` meets its contract. Assumes nothing.
use Rattle.laws.specs.Basics.{arith}
use Rattle.machine_record.proofs.going.least.Goals as goal

pub returns-then-left-lt1 : goal.returns-then-left-lt1
returns-then-left-lt1 c =
    omega (arith, c.if-left-lt1.true)

pub returns : goal.returns
returns c =
    omega (arith, c.if-left-lt1.false)
