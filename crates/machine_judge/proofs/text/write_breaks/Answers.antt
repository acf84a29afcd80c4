-- `machine_judge::text::write_breaks` meets its contract: its four texts stand one after the other.
-- Assumes nothing.
use Rattle.std.specs.Prelude.{◌≡◌}
use Rattle.laws.specs.Basics.{arith}
use Rattle.listing.proofs.Texts.{then}
use Rattle.machine_judge.proofs.{Lengths.pair_short, Lengths.printed_breaks}
use Rattle.machine_judge.proofs.text.write_breaks.Goals as goal

pub write_pair-first-requires : goal.write_pair-first-requires
write_pair-first-requires c =
    let a = c.args in let p = c.write_word-word in let at : p.result ≡ 6 = p.ensures.next_place in
    omega (arith, at, p.auto.out, c.requires.0, pair_short a.w.near.process a.w.near.index.0)

pub write_pair-second-requires : goal.write_pair-second-requires
write_pair-second-requires c =
    let a = c.args in let p = c.write_word-word in let q = c.write_pair-first in let at : p.result ≡ 6 = p.ensures.next_place in
    omega (arith, at, q.ensures.next_place, q.auto.out, p.auto.out, c.requires.0, pair_short a.w.near.process a.w.near.index.0, pair_short a.w.far.process a.w.far.index.0)

pub write_byte-requires : goal.write_byte-requires
write_byte-requires c =
    let a = c.args in let p = c.write_word-word in let q = c.write_pair-first in let s = c.write_pair-second in let at : p.result ≡ 6 = p.ensures.next_place in
    omega (arith, at, s.ensures.next_place, s.auto.out, q.ensures.next_place, q.auto.out, p.auto.out, c.requires.0, pair_short a.w.near.process a.w.near.index.0, pair_short a.w.far.process a.w.far.index.0)

pub returns : goal.returns
returns c =
    let a = c.args in printed_breaks a.w
    (then c.write_word-word.ensures (then c.write_pair-first.ensures (then c.write_pair-second.ensures c.write_byte.ensures)))
