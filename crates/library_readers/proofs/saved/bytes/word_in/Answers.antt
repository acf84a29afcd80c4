-- `library_readers::saved::bytes::word_in` meets its contract. Assumes nothing.
use Rattle.std.specs.Prelude.{◌≡◌, ◌+◌, ◌*◌}
use Rattle.laws.specs.Basics.{arith, rules}
use Rattle.library_readers.specs.saved.Format.{word_in_of}
use Rattle.library_readers.proofs.saved.bytes.word_in.Goals as goal

pub returns : goal.returns
unfolding word_in_of
returns c =
    let a = c.args in let e : 10 + 2 * a.k + 1 ≡ 11 + 2 * a.k = omega arith in
    let second = rw e at c.wide-2.ensures.0 in omega (arith, c.wide.ensures.0, second)
