-- `words_line::through::write_greatest` meets its contract. The loop's invariant: the entries passed so far are written, and nothing else in the lent list has changed.
-- Assumes nothing.
use Rattle.std.specs.Prelude.{◌≡◌, ◌-◌, ◌≤◌}
use Rattle.laws.specs.Basics.{refl, ◌∙◌, arith, length, length-set, rules}
use Rattle.laws.specs.{Below.below_written, Loops.set_below, Loops.below_none, Loops.step_set}
use Rattle.words_line.specs.Through.{greatest_in}
use Rattle.words_line.proofs.through.write_greatest.Goals as goal

pub loop-p-init : goal.loop-p-init
loop-p-init c =
    (search rules, refl, below_none _ _)

pub greatest_entry-requires : goal.greatest_entry-requires
greatest_entry-requires c =
    (c.requires.0, omega (arith, c.requires.3, c.loop-p-test.true), c.requires.1, c.requires.2)

pub loop-p-preserved : goal.loop-p-preserved
loop-p-preserved c =
    let l = c.loop-p in let a = c.args in (
      search rules,
      simp length-set l.invariant.1,
      step_set (λ q. greatest_in a.w.now a.starts q a.m) a.line.now l.line l.p l.invariant.2 _ c.greatest_entry.ensures,
    )

pub returns : goal.returns
returns c =
    let l = c.loop-p in let e : l.p ≡ c.args.n = omega arith in
    rw e at l.invariant.2 ∙ below_written _ _ _
