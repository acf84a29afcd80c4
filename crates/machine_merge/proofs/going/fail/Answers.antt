-- `machine_merge::going::fail` meets its contract.
-- Assumes nothing.
use Rattle.laws.specs.Basics.{rules}
use Rattle.machine_merge.proofs.{Arriving.printed_failing}
use Rattle.machine_merge.proofs.going.fail.Goals as goal

pub returns : goal.returns
returns c =
    λ input.
    rw c.at.ensures (printed_failing _ _ _ _ c.requires c.write_word-size.ensures input)
