-- `words_line::through::names_twice` meets its contract. The loop's invariant: whether a pair passed so far names a process that one before it names.
-- Assumes nothing.
use Rattle.std.specs.Prelude.{◌≡◌, ◌-◌, ◌≤◌}
use Rattle.laws.specs.Basics.{arith, rules}
use Rattle.laws.specs.{Loops.any_zero, Search.any_below}
use Rattle.words_line.specs.Through.{process_of, among_first, twice_in}
use Rattle.words_line.proofs.{Iterations.any_or}
use Rattle.words_line.proofs.through.names_twice.Goals as goal

pub loop-k-init : goal.loop-k-init
loop-k-init c =
    (search rules, any_zero _)

pub loop-k-preserved : goal.loop-k-preserved
loop-k-preserved c =
    let l = c.loop-k in let a = c.args in (search rules, any_or (λ j. among_first a.named.now j (process_of a.named.now j)) l.k l.any _ l.invariant.1 c.is_among-twice.ensures)

pub returns : goal.returns
unfolding twice_in
returns c =
    let e : c.loop-k.k ≡ c.args.m = omega arith in rw e at c.loop-k.invariant.1
