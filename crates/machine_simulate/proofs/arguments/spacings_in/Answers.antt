-- `machine_simulate::arguments::spacings_in` meets its contract.
-- Assumes nothing.
use Rattle.std.specs.Prelude.{◌+◌, ◌-◌}
use Rattle.laws.specs.Basics.{sym, ◌∙◌, ap, arith, length, drop, length-drop, length-take-le, rules}
use lib.Seq.{take_all}
use Rattle.machines.specs.programs.Numbers.{number_in}
use Rattle.machine_simulate.proofs.{Numbers.one_spacing, Numbers.two_spacings}
use Rattle.machine_simulate.proofs.arguments.spacings_in.Goals as goal

pub slice_bounds-number_in-end : goal.slice_bounds-number_in-end
slice_bounds-number_in-end c =
    let place = c.hyphen_in-place in sym (length-take-le place.result c.args.word.now place.ensures.1)

pub returns-then-place-word : goal.returns-then-place-word
returns-then-place-word c =
    let place = c.hyphen_in-place in let from = c.number_in-from in one_spacing c.args.word.now place.result from.result place.ensures.0 c.if-place-word.true from.ensures

pub returns : goal.returns
returns c =
    let word = c.args.word.now in let place = c.hyphen_in-place in let from = c.number_in-from in let to = c.number_in-to in let next = place.result + 1 in two_spacings word place.result from.result to.result place.ensures.0 c.if-place-word.false from.ensures
    (to.ensures ∙ ap number_in (take_all (length word - next) (drop next word) (omega (arith, length-drop next word))))
