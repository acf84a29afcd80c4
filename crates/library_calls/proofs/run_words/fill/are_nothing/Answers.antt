-- `library_calls::run_words::fill::are_nothing` meets its contract. Assumes nothing.
use Rattle.laws.specs.Basics.{refl, rules}
use Rattle.laws.specs.{Rows.every_step, Rows.every_end}
use Rattle.std.specs.Prelude.{None}
use Rattle.model.specs.Sound.{is_nothing_of, nothing_from}
use Rattle.library_calls.proofs.run_words.fill.are_nothing.Goals as goal

pub loop-f-init : goal.loop-f-init
loop-f-init c =
    (search rules, refl)

pub loop-f-preserved : goal.loop-f-preserved
loop-f-preserved c =
    (search rules, rw c.is_nothing-nothing.ensures (every_step is_nothing_of c.args.pins c.loop-f.f None (search rules) c.loop-f.all _ c.loop-f.invariant.1))

pub returns : goal.returns
unfolding nothing_from
returns c =
    every_end is_nothing_of c.args.pins c.loop-f.f (search rules) c.loop-f.all _ c.loop-f.invariant.1
