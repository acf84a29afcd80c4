-- `machine_record::going::to_read` meets its contract. Assumes nothing.
use Rattle.laws.specs.Basics.{arith, rules}
use Rattle.machine_record.proofs.{Arriving.arrives_read, Arriving.arrives_last, Leading.led}
use Rattle.machine_record.proofs.going.to_read.Goals as goal

pub returns-then-m-ge-MOST_RECORDS : goal.returns-then-m-ge-MOST_RECORDS
returns-then-m-ge-MOST_RECORDS c =
    λ words input out lines. led (arrives_last words input lines c.args.m out c.if-m-ge-MOST_RECORDS.true) (c.stop.ensures words input out lines)

pub returns : goal.returns
returns c =
    λ words input out lines. arrives_read words input lines c.args.m out c.requires.0 (omega (arith, c.if-m-ge-MOST_RECORDS.false)) c.requires.2
