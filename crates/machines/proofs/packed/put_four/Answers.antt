-- `machines::packed::put_four` meets its contract.
-- Assumes nothing.
use Rattle.laws.specs.Basics.{arith, set, length-set}
use Rattle.machines.proofs.packed.put_four.Goals as goal

pub bounds-numbers-1 : goal.bounds-numbers-1
bounds-numbers-1 c =
    let l = c.args.numbers.now in let a = set l 0 c.args.kind in omega (arith, c.requires, length-set l 0 c.args.kind, length-set a 1 c.args.size)

pub bounds-numbers-2 : goal.bounds-numbers-2
bounds-numbers-2 c =
    let l = c.args.numbers.now in let a = set l 0 c.args.kind in let b = set a 1 c.args.size in omega (arith, c.requires, length-set l 0 c.args.kind, length-set a 1 c.args.size, length-set b 2 c.args.place)
