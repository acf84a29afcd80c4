-- `machine_simulate::arguments::with_word` meets its contract.
-- Assumes nothing.
use Rattle.laws.specs.Basics.{rules}
use Rattle.machine_simulate.proofs.Numbers.{word_first, word_second, word_third, word_fourth}
use Rattle.machine_simulate.proofs.arguments.with_word.Goals as goal

pub returns-then-i-eq2 : goal.returns-then-i-eq2
returns-then-i-eq2 c =
    let at-if1 = c.if-i-eq2 in let at-spacings-in = c.spacings_in-spacings in word_second _ _ _ _ at-if1.true at-spacings-in.ensures

pub returns-then-i-eq1 : goal.returns-then-i-eq1
returns-then-i-eq1 c =
    let at-if2 = c.if-i-eq1 in let at-number-in = c.number_in-number in word_first _ _ _ _ at-if2.true at-number-in.ensures

pub returns-then-i-eq3 : goal.returns-then-i-eq3
returns-then-i-eq3 c =
    let at-if3 = c.if-i-eq3 in let at-number-in = c.number_in-number in word_third _ _ _ _ at-if3.true at-number-in.ensures

pub returns : goal.returns
returns c =
    let at-if1 = c.if-i-eq2 in let at-if2 = c.if-i-eq1 in let at-if3 = c.if-i-eq3 in let at-number-in = c.number_in-number in word_fourth _ _ _ _ at-if1.false at-if2.false at-if3.false at-number-in.ensures
