-- `library_readers::saved::bytes::has_heading` meets its contract. Assumes nothing.
use Rattle.std.specs.Prelude.{◌≡◌, ◌-◌, ◌≤◌}
use Rattle.laws.specs.Basics.{true, arith, eqb, get_or, rules}
use Rattle.laws.specs.{Loops.all_zero, Search.all_below}
use Rattle.library_readers.specs.saved.Format.{heading, has_heading_of}
use Rattle.library_readers.proofs.{saved.Parts.head_off, saved.Parts.head_on}
use Rattle.library_readers.proofs.saved.bytes.has_heading.Goals as goal

pub loop-k-init : goal.loop-k-init
loop-k-init c =
    (search rules, search rules, all_zero _)

pub returns-then-bytes-k : goal.returns-then-bytes-k
unfolding has_heading_of
returns-then-bytes-k c =
    let l = c.loop-k in let a = c.args in head_off a.bytes.now _ l.k (omega arith) l.invariant.1 c.if-bytes-k.true

pub loop-k-preserved : goal.loop-k-preserved
loop-k-preserved c =
    let l = c.loop-k in (search rules, l.invariant.1, head_on c.args.bytes.now _ l.k l.invariant.1 l.invariant.2 c.if-bytes-k.false)

pub returns : goal.returns
unfolding has_heading_of
returns c =
    let l = c.loop-k in let e : l.k ≡ 10 = omega arith in
    rw e at l.invariant.2
