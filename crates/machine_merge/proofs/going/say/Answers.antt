-- `machine_merge::going::say` meets its contract.
-- Assumes nothing.
use Rattle.laws.specs.Basics.{rules}
use Rattle.machine_merge.proofs.{Arriving.printed_reporting}
use Rattle.machine_merge.proofs.going.say.Goals as goal

pub returns : goal.returns
returns c =
    λ input.
    rw c.at.ensures (printed_reporting _ _ _ _ c.requires c.write_word-size.ensures input)
