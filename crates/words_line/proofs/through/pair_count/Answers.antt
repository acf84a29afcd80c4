-- `words_line::through::pair_count` meets its contract. Assumes nothing.
use Rattle.std.specs.Prelude.{◌%◌}
use Rattle.laws.specs.Basics.{eq-eqb, ne_eqb}
use Rattle.words_line.specs.Through.{pair_count_of}
use Rattle.words_line.proofs.through.pair_count.Goals as goal

pub returns-then-length-eq1 : goal.returns-then-length-eq1
unfolding pair_count_of
returns-then-length-eq1 c =
    rw (eq-eqb (c.args.length % 2) 1 c.if-length-eq1.true)

pub returns-else-length-eq1 : goal.returns-else-length-eq1
unfolding pair_count_of
returns-else-length-eq1 c =
    rw (ne_eqb (c.args.length % 2) 1 c.if-length-eq1.false)
