-- `machine_merge::going::after_set` meets its contract.
-- Assumes nothing.
use Rattle.laws.specs.Basics.{sym, arith, length-take-le, rules}
use Rattle.machines.specs.Forms.{Between}
use Rattle.machine_merge.proofs.{Leading.set_word, Leading.set_end, Leading.set_failed, Arriving.led}
use Rattle.machine_merge.proofs.going.after_set.Goals as goal

pub slice_bounds-take_set-end : goal.slice_bounds-take_set-end
unfolding Between
slice_bounds-take_set-end c =
    let b = rw c.in-Brought.is at c.word-taken.ensures.1 in sym (length-take-le c.in-Brought.size c.args.input.now (omega (arith, b.1, c.requires.0)))

pub returns-in-Brought : goal.returns-in-Brought
returns-in-Brought c =
    let input = c.args.input.now in led
    (set_word _ 0 input _ (c.word-taken.ensures.0 0 input (omega (arith, c.requires.0))) _ c.in-Brought.is)
    (c.take_set.ensures input c.requires.0)

pub returns-in-Ended : goal.returns-in-Ended
returns-in-Ended c =
    let input = c.args.input.now in led
    (set_end _ 0 input _ (c.word-taken.ensures.0 0 input (omega (arith, c.requires.0))) c.in-Ended.is)
    (c.say.ensures input)

pub returns-in-Failed : goal.returns-in-Failed
returns-in-Failed c =
    let input = c.args.input.now in led
    (set_failed _ 0 input _ (c.word-taken.ensures.0 0 input (omega (arith, c.requires.0))) c.in-Failed.is)
    (c.say-in-Failed.ensures input)
