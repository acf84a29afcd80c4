-- `words_line::through::names_absent` meets its contract. The loop's invariant: whether a pair passed so far names a process that is not below n.
-- Assumes nothing.
use Rattle.std.specs.Prelude.{◌≡◌, ◌-◌, ◌≤◌}
use Rattle.laws.specs.Basics.{refl, arith, leb, rules}
use Rattle.laws.specs.{Loops.any_zero, Search.any_below}
use Rattle.words_line.specs.Through.{process_of}
use Rattle.words_line.proofs.{Iterations.any_or}
use Rattle.words_line.proofs.through.names_absent.Goals as goal

pub loop-k-init : goal.loop-k-init
loop-k-init c =
    (search rules, any_zero _)

pub loop-k-preserved : goal.loop-k-preserved
loop-k-preserved c =
    let l = c.loop-k in let a = c.args in (search rules, any_or (λ j. leb a.n (process_of a.named.now j)) l.k l.any _ l.invariant.1 refl)

pub returns : goal.returns
returns c =
    let e : c.loop-k.k ≡ c.args.m = omega arith in rw e at c.loop-k.invariant.1
