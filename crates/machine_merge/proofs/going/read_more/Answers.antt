-- `machine_merge::going::read_more` meets its contract.
-- Assumes nothing.
use Rattle.machine_merge.proofs.{Arriving.arrives_reading}
use Rattle.machine_merge.proofs.going.read_more.Goals as goal

pub returns : goal.returns
returns c =
    λ input out long. arrives_reading c.args.m input out c.requires.0 c.args.count c.requires.1 long
