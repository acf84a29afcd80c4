-- `machine_simulate::print::write_result` meets its contract, by the answer.
-- Assumes nothing.
use Rattle.laws.specs.Basics.{arith, rules}
use Rattle.machine_simulate.specs.Text.{answer_text, result_text}
use Rattle.machine_simulate.proofs.print.write_result.Goals as goal

pub returns-in-Err : goal.returns-in-Err
unfolding result_text answer_text
returns-in-Err c =
    (rw c.in-Err.is c.write_refused.ensures.0, omega (arith, c.write_refused.ensures.1))

pub returns-in-Ok : goal.returns-in-Ok
unfolding result_text answer_text
returns-in-Ok c =
    (rw c.in-Ok.is c.write_figures.ensures.0, c.write_figures.ensures.1)
