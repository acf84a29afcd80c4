-- `machine_console::going::start` meets its contract. Assumes nothing.
use Rattle.laws.specs.Basics.{arith, rules, sym, ◌∙◌}
use Rattle.machine_console.proofs.{Arriving.begun_refused, Arriving.arrives_begun, Leading.led, Starting.opened_number, Starting.opened_run}
use Rattle.machine_console.proofs.going.start.Goals as goal

pub returns-then-refused-ne0 : goal.returns-then-refused-ne0
returns-then-refused-ne0 c =
    λ input.
    led (begun_refused c.args.words.now input c.args.n _ (c.number-refused.ensures ∙ opened_number _ _ _ _ c.requires.0 c.start-answer.ensures.value c.from-summary.ensures) c.if-refused-ne0.true) (c.end_refused.ensures _ input)

pub returns : goal.returns
returns c =
    λ input.
    let started = c.start-answer in let of-start = c.from-summary in let none = c.if-refused-ne0.false in let e = opened_number _ c.args.n _ _ c.requires.0 started.ensures.value of-start.ensures in rw c.at.ensures (arrives_begun _ input _ c.args.n (omega (arith, none, e, c.number-refused.ensures)) (opened_run _ c.args.n _ _ c.requires.0 started.ensures.value _ started.ensures.w_after of-start.ensures (omega (arith, none, c.number-refused.ensures))))
