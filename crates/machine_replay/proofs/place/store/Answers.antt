-- `machine_replay::place::store` meets its contract.
-- Assumes nothing.
use Rattle.std.specs.Prelude.{◌<◌}
use Rattle.laws.specs.Basics.{arith, length, rules}
use Rattle.machine_replay.proofs.{Places.stored}
use Rattle.machine_replay.proofs.place.store.Goals as goal

pub bounds-memory-1 : goal.bounds-memory-1
bounds-memory-1 c =
    let less : 1 < length c.args.memory.now = omega (arith, c.requires) in search rules

pub bounds-memory-2 : goal.bounds-memory-2
bounds-memory-2 c =
    let less : 2 < length c.args.memory.now = omega (arith, c.requires) in search rules

pub bounds-memory-3 : goal.bounds-memory-3
bounds-memory-3 c =
    let less : 3 < length c.args.memory.now = omega (arith, c.requires) in search rules

pub bounds-memory-4 : goal.bounds-memory-4
bounds-memory-4 c =
    let less : 4 < length c.args.memory.now = omega (arith, c.requires) in search rules

pub returns : goal.returns
returns c =
    rw c.bit_of-all.ensures (stored c.args.memory.now c.args.p c.requires)
