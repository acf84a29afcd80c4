-- `machine_simulate::decide` meets its contract.
-- Assumes nothing.
use Rattle.laws.specs.Basics.{sym, ◌∙◌, rules}
use Rattle.machines.proofs.Driving.{stands_as}
use Rattle.machine_simulate.specs.Simulating.{simulating}
use Rattle.machine_simulate.proofs.{Stepping.decided_wrong, Stepping.decided_right}
use Rattle.machine_simulate.proofs.decide.Goals as goal

pub returns-then-is_wrong : goal.returns-then-is_wrong
returns-then-is_wrong c =
    let at-is-wrong = c.is_wrong in let at-if1 = c.if-is_wrong in let at-report-usage = c.report_usage in stands_as simulating
    (decided_wrong c.args.k (sym at-is-wrong.ensures ∙ at-if1.true))
    at-report-usage.ensures

pub returns : goal.returns
returns c =
    let at-is-wrong = c.is_wrong in let at-if1 = c.if-is_wrong in let at-answer-with = c.answer_with in stands_as simulating
    (decided_right c.args.k (sym at-is-wrong.ensures ∙ at-if1.false))
    at-answer-with.ensures
