-- `machine_judge::after_read` meets its contract, by what the read brought.
-- Assumes nothing.
use Rattle.std.specs.Prelude.{◌≡◌, ◌+◌, ◌≤◌}
use Rattle.laws.specs.Basics.{ℕ, arith}
use Rattle.machines.proofs.Driving.{stands_as}
use Rattle.machine_judge.specs.Judging.{most_read, judging}
use Rattle.machine_judge.proofs.{Stepping.brought_fits, Stepping.led_onward, Stepping.led_end, Stepping.led_failed}
use Rattle.machines.specs.declared.heard.Taken.TheVariants as taken
use Rattle.machine_judge.proofs.after_read.Goals as goal

pub overflow_add-buffered : goal.overflow_add-buffered
overflow_add-buffered c =
    let fits : (size : ℕ) → c.read-taken.result ≡ taken.Brought size → c.args.buffered + size ≤ most_read = λ size e. let asks = c.wanted in brought_fits c.args.input.now c.args.buffered c.requires.1 c.requires.0.1 c.args.answer asks.result asks.ensures c.read-taken.result size c.read-taken.ensures e in
    omega (arith, fits _ c.in-Brought.is)

pub go_on-requires : goal.go_on-requires
go_on-requires c =
    let fits : (size : ℕ) → c.read-taken.result ≡ taken.Brought size → c.args.buffered + size ≤ most_read = λ size e. let asks = c.wanted in brought_fits c.args.input.now c.args.buffered c.requires.1 c.requires.0.1 c.args.answer asks.result asks.ensures c.read-taken.result size c.read-taken.ensures e in
    (c.requires.0, fits _ c.in-Brought.is)

pub returns-in-Brought : goal.returns-in-Brought
returns-in-Brought c =
    let is = c.in-Brought.is in stands_as judging
    (led_onward c.args.input.now _ c.requires.1 c.requires.0.1 _ _ c.wanted.ensures _ _ c.read-taken.ensures is)
    c.go_on.ensures

pub returns-in-Ended : goal.returns-in-Ended
returns-in-Ended c =
    let is = c.in-Ended.is in stands_as judging
    (led_end c.args.input.now _ c.requires.1 c.requires.0.1 _ _ c.wanted.ensures _ c.read-taken.ensures is)
    c.print_verdict.ensures

pub returns-in-Failed : goal.returns-in-Failed
returns-in-Failed c =
    let is = c.in-Failed.is in stands_as judging
    (led_failed c.args.input.now _ c.requires.1 c.requires.0.1 _ _ c.wanted.ensures _ c.read-taken.ensures is)
    c.fail.ensures
