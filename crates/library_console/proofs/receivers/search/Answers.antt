-- `library_console::receivers::search` meets its contract. The loop's invariant: the places passed were searched.
-- Assumes nothing.
use Rattle.std.specs.Prelude.{◌≡◌, ◌-◌, ◌≤◌}
use Rattle.laws.specs.Basics.{arith, rules}
use Rattle.library_console.specs.Receivers.{SearchedTo}
use Rattle.library_console.proofs.{Receiving.none_searched}
use Rattle.library_console.proofs.receivers.search.Goals as goal

pub loop-k-init : goal.loop-k-init
loop-k-init c =
    let a = c.args in (search rules, none_searched a.w.now a.m)

pub look_at-next-requires : goal.look_at-next-requires
look_at-next-requires c =
    let l = c.loop-k in (c.requires.0, omega (arith, c.loop-k-test.true, c.requires.1), c.requires.2, l.invariant.1)

pub loop-k-preserved : goal.loop-k-preserved
loop-k-preserved c =
    (search rules, c.look_at-next.ensures)

pub returns : goal.returns
returns c =
    let l = c.loop-k in let e : l.k ≡ c.args.end = omega arith in
    rw e at l.invariant.1
