-- `words_line::through::is_among` meets its contract. The loop's invariant: whether a pair passed so far names the process.
-- Assumes nothing.
use Rattle.std.specs.Prelude.{◌≡◌, ◌-◌, ◌≤◌}
use Rattle.laws.specs.Basics.{refl, arith, eqb, rules}
use Rattle.laws.specs.{Loops.any_zero, Search.any_below}
use Rattle.words_line.specs.Through.{process_of, among_first}
use Rattle.words_line.proofs.{Iterations.any_or}
use Rattle.words_line.proofs.through.is_among.Goals as goal

pub loop-k-init : goal.loop-k-init
loop-k-init c =
    (search rules, any_zero _)

pub loop-k-preserved : goal.loop-k-preserved
loop-k-preserved c =
    let l = c.loop-k in let a = c.args in (search rules, any_or (λ j. eqb (process_of a.named.now j) a.p) l.k l.any _ l.invariant.1 refl)

pub returns : goal.returns
unfolding among_first
returns c =
    let e : c.loop-k.k ≡ c.args.m = omega arith in rw e at c.loop-k.invariant.1
