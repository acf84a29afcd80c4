-- `library_halves::log::tally_all` meets its contract. The loop's invariant: the tally of the words so far.
-- Assumes nothing.
use Rattle.std.specs.Prelude.{◌≡◌}
use Rattle.laws.specs.Basics.{arith, length}
use Rattle.library_halves.proofs.{Tallies.tally_none, Tallies.tally_next, Tallies.tally_small}
use Rattle.library_halves.proofs.log.tally_all.Goals as goal

pub loop-word-init : goal.loop-word-init
loop-word-init c =
    let a = c.args in tally_none a.sender a.count a.log.now

pub tally_word-t-requires : goal.tally_word-t-requires
tally_word-t-requires c =
    let l = c.loop-word in let a = c.args in let m = tally_small a.sender a.count a.log.now l.word-index in let e = l.invariant in (rw e (omega (arith, m.0)), rw e (omega (arith, m.1)))

pub loop-word-preserved : goal.loop-word-preserved
loop-word-preserved c =
    let l = c.loop-word in let a = c.args in tally_next a.sender a.count a.log.now l.word-index l.t _ l.invariant c.tally_word-t.ensures

pub returns : goal.returns
returns c =
    let l = c.loop-word in let e : l.word-index ≡ length c.args.log.now = omega arith in rw e at l.invariant
