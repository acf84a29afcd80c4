-- `library_readers::copy_words` meets its contract. Assumes nothing.
use Rattle.std.specs.Prelude.{◌≡◌, ◌+◌, ◌-◌, ◌≤◌}
use Rattle.laws.specs.Basics.{refl, ◌∙◌, arith, length, length-set, rules}
use Rattle.laws.specs.{Below.below_written, Loops.set_below, Loops.below_none, Loops.step_set}
use Rattle.words.specs.Layout.{word}
use Rattle.library_readers.proofs.copy_words.Goals as goal

pub loop-f-init : goal.loop-f-init
loop-f-init c =
    (search rules, refl, below_none _ _)

pub loop-f-preserved : goal.loop-f-preserved
loop-f-preserved c =
    let l = c.loop-f in let a = c.args in (search rules, simp length-set l.invariant.1, step_set (λ q. word a.w.now (a.at + q)) a.out.now l.out l.f l.invariant.2 _ refl)

pub returns : goal.returns
returns c =
    let l = c.loop-f in let e : l.f ≡ c.args.n = omega arith in
    rw e at l.invariant.2 ∙ below_written _ _ _
