-- `machine_console::script::call_in` meets its contract: field by field.
-- Assumes nothing.
use Rattle.laws.specs.Basics.{rules}
use Rattle.machine_console.specs.script.Script.{call_in}
use Rattle.machine_console.proofs.script.call_in.Goals as goal

pub returns : goal.returns
unfolding call_in
returns c =
    rw (c.two-low.ensures, c.three-argument.ensures, c.two-owned.ensures, c.role_of-role.ensures)
