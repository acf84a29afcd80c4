-- `words_sound::own_entries` meets its contract. Assumes nothing.
use Rattle.std.specs.Prelude.{◌≡◌, ◌-◌, ◌≤◌}
use Rattle.laws.specs.Basics.{◌∙◌, arith, rules}
use Rattle.words.specs.Layout.{count_of, interval_of}
use Rattle.laws.specs.Loops.{set_below, below_none, step_set}
use Rattle.words_sound.specs.Test.{own_in}
use Rattle.words_sound.proofs.{Judging.limits_gathered}
use Rattle.words_sound.proofs.own_entries.Goals as goal

pub loop-f-init : goal.loop-f-init
loop-f-init c =
    (search rules, below_none _ _)

pub loop-f-preserved : goal.loop-f-preserved
loop-f-preserved c =
    let l = c.loop-f in let a = c.args in (search rules, step_set (λ q. interval_of (own_in a.w.now q)) _ l.owns l.f l.invariant.1 _ (rw c.part_at.ensures at c.interval_of-own.ensures))

pub returns : goal.returns
returns c =
    let l = c.loop-f in let e : l.f ≡ count_of c.args.w.now = omega (arith, c.requires.1) in
    rw e at l.invariant.1 ∙ limits_gathered c.args.w.now (omega (arith, c.requires.1, c.requires.2))
