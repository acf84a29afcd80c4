-- `machine_simulate::answer_with` meets its contract.
-- Assumes nothing.
use Rattle.laws.specs.Basics.{sym, ◌∙◌, ap, arith, rules}
use Rattle.machines.proofs.{Driving.stands_as, programs.Texts.front_text}
use Rattle.machine_simulate.specs.{Text.result_text, Simulating.Printing, Simulating.simulating}
use Rattle.machine_simulate.proofs.{Ending.answered_table, Ending.answered_one}
use Rattle.machine_simulate.proofs.answer_with.Goals as goal

pub returns-then-spacings : goal.returns-then-spacings
returns-then-spacings c =
    stands_as simulating (answered_table c.args.k c.if-spacings.true) c.table.ensures

pub returns : goal.returns
returns c =
    let trial = c.trial-result in let text = c.write_result-size in let front = front_text c.args.out.now _ text.new.out text.result text.ensures.0 (omega (arith, text.ensures.1, c.requires.2)) in stands_as simulating
    (answered_one c.args.k c.if-spacings.false ∙ ap Printing (sym (front ∙ ap result_text trial.ensures)))
    c.print_last.ensures
