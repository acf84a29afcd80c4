-- `machine_judge::read_more` meets its contract.
-- Assumes nothing.
use Rattle.machine_judge.proofs.{Standing.reading_after}
use Rattle.machine_judge.proofs.read_more.Goals as goal

pub put-requires : goal.put-requires
put-requires c =
    c.requires.0.0

pub returns : goal.returns
returns c =
    reading_after c.args.memory.now _ c.args.input.now c.args.out.now c.requires.0 c.args.buffered
    c.wanted-most.result c.put.ensures c.wanted-most.ensures c.requires.1
