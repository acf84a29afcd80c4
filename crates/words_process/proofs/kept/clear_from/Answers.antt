-- `words_process::kept::clear_from` meets its contract. Assumes nothing.
use Rattle.std.specs.Prelude.{◌≡◌, ◌-◌, ◌≤◌}
use Rattle.laws.specs.Basics.{refl, ◌∙◌, arith, length, rules}
use Rattle.words_process.specs.Kept.{Cleared}
use Rattle.words_process.proofs.{Collecting.cleared_none, Collecting.cleared_step}
use Rattle.words_process.proofs.kept.clear_from.Goals as goal

pub loop-k-init : goal.loop-k-init
loop-k-init c =
    (search rules, search rules, refl, cleared_none _ _ _)

pub clear-requires : goal.clear-requires
clear-requires c =
    let l = c.loop-k in (l.invariant.2 ∙ c.requires.0, c.requires.1, omega (arith, c.requires.3))

pub loop-k-preserved : goal.loop-k-preserved
loop-k-preserved c =
    let l = c.loop-k in (
      omega (arith, l.invariant.0),
      search rules,
      c.clear.auto.w ∙ l.invariant.2,
      cleared_step c.args.w.now c.args.p c.args.from l.k l.w _ c.requires.0 c.requires.1 l.invariant.0 (omega (arith, c.requires.3)) l.invariant.3 c.clear.ensures,
    )

pub shape_of-w : goal.shape_of-w
shape_of-w c =
    c.loop-k.invariant.2

pub returns : goal.returns
returns c =
    let l = c.loop-k in let e : l.k ≡ c.args.to = omega arith in
    rw e at l.invariant.3
