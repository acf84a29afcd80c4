-- `machine_simulate::after_line` meets its contract.
-- Assumes nothing.
use Rattle.laws.specs.Basics.{rules}
use Rattle.machines.specs.Machines.{heard, stepped}
use Rattle.machines.proofs.Driving.{stands_as}
use Rattle.machine_simulate.specs.Simulating.{ask, next, next_row_of, simulating}
use Rattle.machine_simulate.proofs.{Stepping.write_done, Stepping.write_failed}
use Rattle.machine_simulate.proofs.after_line.Goals as goal

pub returns-then-is_done : goal.returns-then-is_done
unfolding stepped ask next heard
returns-then-is_done c =
    let done = c.is_done in λ text. stands_as simulating
    (write_done _ _ (done.ensures 0 c.args.input.now) (next_row_of c.args.k) c.if-is_done.true)
    c.next_row.ensures

pub returns : goal.returns
unfolding stepped ask next heard
returns c =
    let done = c.is_done in λ text. stands_as simulating
    (write_failed _ _ (done.ensures 0 c.args.input.now) (next_row_of c.args.k) c.if-is_done.false)
    c.fail.ensures
