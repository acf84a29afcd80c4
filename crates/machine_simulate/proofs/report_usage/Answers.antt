-- `machine_simulate::report_usage` meets its contract.
-- Assumes nothing.
use Rattle.laws.specs.Basics.{arith, rules}
use Rattle.machine_simulate.specs.Simulating.{usage}
use Rattle.machine_simulate.proofs.{Standing.reporting_stands}
use Rattle.machine_simulate.proofs.report_usage.Goals as goal

pub returns : goal.returns
returns c =
    let word = c.write_word-size in let put = c.put in reporting_stands _ c.args.input.now word.new.out
    (omega (arith, put.auto.memory, c.requires.0), c.requires.1, omega (arith, word.auto.out, c.requires.2)) _
    c.args.out.now usage word.result (omega (arith, c.requires.2)) word.ensures put.ensures
