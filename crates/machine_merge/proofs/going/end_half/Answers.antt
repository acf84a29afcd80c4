-- `machine_merge::going::end_half` meets its contract.
-- Assumes nothing.
use Rattle.laws.specs.Basics.{rules}
use Rattle.machine_merge.proofs.{Leading.first_buffered, Leading.second_buffered, Arriving.led, Arriving.arrives_second}
use Rattle.machine_merge.proofs.going.end_half.Goals as goal

pub returns-then-m-eq0 : goal.returns-then-m-eq0
returns-then-m-eq0 c =
    let m = c.args.m in let input = c.args.input.now in let buffered = c.buffered_size-buffered in led (first_buffered m input c.args.count buffered.result buffered.ensures.0 c.if-m-eq0.true)
    (arrives_second m.set buffered.result input _ c.requires.0.0 buffered.ensures.1 c.requires.1)

pub returns : goal.returns
returns c =
    let m = c.args.m in let input = c.args.input.now in let buffered = c.buffered_size-buffered in led
    (second_buffered m input c.args.count buffered.result buffered.ensures.0 c.if-m-eq0.false)
    (c.show.ensures input)
