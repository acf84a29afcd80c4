-- `machine_simulate::after_count` meets its contract.
-- Assumes nothing.
use Rattle.laws.specs.Basics.{sym, ◌∙◌, ap, rules}
use Rattle.machines.proofs.Driving.{stands_as}
use Rattle.machine_simulate.specs.Simulating.{Asking, simulating}
use Rattle.machine_simulate.proofs.{Stepping.led_counted, Stepping.led_miscounted}
use Rattle.machine_simulate.proofs.after_count.Goals as goal

pub returns-then-is_number : goal.returns-then-is_number
returns-then-is_number c =
    let at-is-number = c.is_number in let at-if1 = c.if-is_number in let at-no-numbers = c.no_numbers in let at-ask-word = c.ask_word in stands_as simulating
    (led_counted _ _ (at-is-number.ensures 0 c.args.input.now) at-if1.true ∙ ap (Asking 1) (sym at-no-numbers.ensures))
    at-ask-word.ensures

pub returns : goal.returns
returns c =
    let at-is-number = c.is_number in let at-if1 = c.if-is_number in let at-report-usage = c.report_usage in stands_as simulating
    (led_miscounted _ _ (at-is-number.ensures 0 c.args.input.now) at-if1.false)
    at-report-usage.ensures
