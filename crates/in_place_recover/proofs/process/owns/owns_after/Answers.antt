-- `in_place_recover::process::owns::owns_after` meets its contract. The loop's invariant: the own entries of the processes passed so far stand.
-- Assumes nothing.
use Rattle.std.specs.Prelude.{◌≡◌, ◌-◌, ◌≤◌}
use Rattle.laws.specs.Basics.{refl, ◌∙◌, arith, get_or, rules}
use Rattle.laws.specs.Loops.{set_below, below_none, step_set, below_all}
use Rattle.in_place_recover.specs.Restored.{restored_own, owns_after_of}
use Rattle.in_place_recover.proofs.process.owns.owns_after.Goals as goal

pub loop-p-init : goal.loop-p-init
loop-p-init c =
    (search rules, below_none _ _)

pub bounds-pasts-p : goal.bounds-pasts-p
bounds-pasts-p c =
    omega (arith, c.loop-p-test.true, c.requires.1.0)

pub overflow_cast-past : goal.overflow_cast-past
overflow_cast-past c =
    let small = c.shared_slice_known-in-loop-p-1.given c.loop-p.p in search (rules, small)

pub own_then-own-requires : goal.own_then-own-requires
own_then-own-requires c =
    (c.requires.0, c.loop-p-test.true, c.requires.1.1 c.loop-p.p c.loop-p-test.true)

pub loop-p-preserved : goal.loop-p-preserved
loop-p-preserved c =
    let l = c.loop-p in let a = c.args in (search rules, step_set (λ q. restored_own a.w.now q (get_or a.pasts.now q 0)) _ l.owns l.p l.invariant.1 _ c.own_then-own.ensures)

pub returns : goal.returns
unfolding owns_after_of
returns c =
    let l = c.loop-p in let e : l.p ≡ 16 = omega arith in
    rw e at l.invariant.1 ∙ below_all _ _ 16 refl
