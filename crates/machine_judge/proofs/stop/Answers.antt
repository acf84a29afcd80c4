-- `machine_judge::stop` meets its contract.
-- Assumes nothing.
use Rattle.machine_judge.proofs.{Standing.stopped_after}
use Rattle.machine_judge.proofs.stop.Goals as goal

pub returns : goal.returns
returns c =
    stopped_after c.args.memory.now _ c.put.ensures c.requires
