-- `machine_simulate::after_word` meets its contract.
-- Assumes nothing.
use Rattle.laws.specs.Basics.{sym, arith, length-take-le, rules}
use Rattle.machines.proofs.Driving.{stands_as}
use Rattle.machine_simulate.specs.Simulating.{simulating}
use Rattle.machine_simulate.proofs.{Stepping.led_asking, Stepping.led_decided}
use Rattle.machine_simulate.proofs.after_word.Goals as goal

pub slice_bounds-with_word-end : goal.slice_bounds-with_word-end
slice_bounds-with_word-end c =
    let at-size-of = c.size_of-size in sym (length-take-le at-size-of.result c.args.input.now (omega (arith, at-size-of.ensures.1, c.requires.0.1)))

pub returns-then-i-lt4 : goal.returns-then-i-lt4
returns-then-i-lt4 c =
    let at-word = c.word in let at-size-of = c.size_of-size in let at-with-word = c.with_word-numbers in let at-if1 = c.if-i-lt4 in let at-ask-word = c.ask_word in stands_as simulating
    (led_asking c.args.input.now c.requires.0.1 c.args.answer at-word.result at-word.ensures.0 at-size-of.result at-size-of.ensures.0 c.args.i c.args.k at-with-word.result at-with-word.ensures at-if1.true)
    at-ask-word.ensures

pub returns : goal.returns
returns c =
    let at-word = c.word in let at-size-of = c.size_of-size in let at-with-word = c.with_word-numbers in let at-if1 = c.if-i-lt4 in let at-decide = c.decide in stands_as simulating
    (led_decided c.args.input.now c.requires.0.1 c.args.answer at-word.result at-word.ensures.0 at-size-of.result at-size-of.ensures.0 c.args.i c.args.k at-with-word.result at-with-word.ensures at-if1.false)
    at-decide.ensures
