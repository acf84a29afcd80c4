-- `machine_record::marks::put` meets its contract: every write leaves the length. Assumes nothing.
use Rattle.laws.specs.Basics.{arith, length-set, rules}
use Rattle.machine_record.proofs.{Marking.all_put}
use Rattle.machine_record.proofs.marks.put.Goals as goal

pub bounds-memory-1 : goal.bounds-memory-1
bounds-memory-1 c =
    simp length-set (omega arith)

pub bounds-memory-2 : goal.bounds-memory-2
bounds-memory-2 c =
    simp length-set (omega arith)

pub bounds-memory-3 : goal.bounds-memory-3
bounds-memory-3 c =
    simp length-set (omega arith)

pub bounds-memory-4 : goal.bounds-memory-4
bounds-memory-4 c =
    simp length-set (omega arith)

pub bounds-memory-5 : goal.bounds-memory-5
bounds-memory-5 c =
    simp length-set (omega arith)

pub returns : goal.returns
returns c =
    all_put c.args.memory.now c.args.m c.requires
