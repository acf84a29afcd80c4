-- `library_calls::run_words::read::pins_at` meets its contract. Assumes nothing.
use Rattle.std.specs.Prelude.{◌≡◌, ◌+◌}
use Rattle.laws.specs.Basics.{refl, ◌∙◌, arith, rules}
use Rattle.laws.specs.Loops.{below_none, step_set, below_all}
use Rattle.words.specs.Layout.{word, pin_of_def, pins_in}
use Rattle.library_calls.proofs.run_words.read.pins_at.Goals as goal

pub loop-f-init : goal.loop-f-init
loop-f-init c =
    (search rules, below_none _ _)

pub loop-f-preserved : goal.loop-f-preserved
loop-f-preserved c =
    let l = c.loop-f in let a = c.args in (search rules, step_set (λ q. pin_of_def (word a.w.now (a.at + q))) _ l.pins l.f l.invariant.1 _ c.pin_of-pin.ensures)

pub returns : goal.returns
unfolding pins_in
returns c =
    let l = c.loop-f in let e : l.f ≡ 16 = omega arith in
    rw e at l.invariant.1 ∙ below_all _ _ 16 refl
