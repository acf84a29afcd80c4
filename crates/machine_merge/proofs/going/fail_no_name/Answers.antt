-- `machine_merge::going::fail_no_name` meets its contract.
-- Assumes nothing.
use Rattle.laws.specs.Basics.{ap, rules}
use Rattle.machine_merge.specs.Merging.{Failing}
use Rattle.machine_merge.proofs.{Leading.no_name_first, Leading.no_name_second, Arriving.led}
use Rattle.machine_merge.proofs.going.fail_no_name.Goals as goal

pub returns-then-m-eq0 : goal.returns-then-m-eq0
returns-then-m-eq0 c =
    λ input.
    led (ap Failing (no_name_first c.args.m input c.if-m-eq0.true)) (c.fail.ensures input)

pub returns : goal.returns
returns c =
    λ input.
    led (ap Failing (no_name_second c.args.m input c.if-m-eq0.false)) (c.fail-2.ensures input)
