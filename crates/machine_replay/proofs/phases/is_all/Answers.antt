-- `machine_replay::phases::is_all` meets its contract.
-- Assumes nothing.
use Rattle.std.specs.Prelude.{◌≡◌, ◌+◌, ◌-◌, ◌≤◌}
use Rattle.laws.specs.Basics.{arith, length, rules}
use Rattle.laws.specs.Tests.{same}
use Rattle.machines.specs.{Machines.brought, Forms.taken_of, Forms.Between}
use Rattle.machine_replay.proofs.phases.is_all.Goals as goal

pub overflow_add-at : goal.overflow_add-at
unfolding Between
overflow_add-at c =
    let few = (rw c.in-Brought.is at c.requires.0).1 in let fits : c.args.at + c.in-Brought.size ≤ length c.args.input.now = omega (arith, few, c.requires.1) in search rules

pub slice_bounds-is_all-end : goal.slice_bounds-is_all-end
unfolding Between
slice_bounds-is_all-end c =
    let few = (rw c.in-Brought.is at c.requires.0).1 in omega (arith, few, c.requires.1)

pub returns-in-Brought : goal.returns-in-Brought
unfolding taken_of brought
returns-in-Brought c =
    let a = c.args in let size = c.in-Brought.size in let whole : a.at + size - a.at ≡ size = omega arith in rw c.in-Brought.is (rw whole at c.is_all.ensures)

pub returns-in-Ended : goal.returns-in-Ended
unfolding taken_of brought same
returns-in-Ended c =
    rw c.in-Ended.is

pub returns-in-Failed : goal.returns-in-Failed
unfolding taken_of brought same
returns-in-Failed c =
    rw c.in-Failed.is
