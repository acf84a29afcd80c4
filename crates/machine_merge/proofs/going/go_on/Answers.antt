-- `machine_merge::going::go_on` meets its contract.
-- Assumes nothing.
use Rattle.laws.specs.Basics.{rules}
use Rattle.machine_merge.specs.Words.{stage_of, name_of}
use Rattle.machine_merge.proofs.{Leading.onward_read, Leading.onward_end, Arriving.led}
use Rattle.machine_merge.proofs.going.go_on.Goals as goal

pub returns-then-count-lt-MOST_COUNTED : goal.returns-then-count-lt-MOST_COUNTED
returns-then-count-lt-MOST_COUNTED c =
    let m = c.args.m in let input = c.args.input.now in led (onward_read m.half c.args.count input (stage_of m input) (name_of m input) c.if-count-lt-MOST_COUNTED.true) (c.read_more.ensures input _ c.requires.1)

pub returns : goal.returns
returns c =
    let m = c.args.m in let input = c.args.input.now in led (onward_end m.half c.args.count input (stage_of m input) (name_of m input) c.if-count-lt-MOST_COUNTED.false)
    c.end_half.ensures
