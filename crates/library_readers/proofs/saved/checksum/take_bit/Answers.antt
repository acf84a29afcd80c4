-- `library_readers::saved::checksum::take_bit` meets its contract. Assumes nothing.
use Rattle.laws.specs.Basics.{eq-eqb, ne_eqb}
use Rattle.library_readers.specs.saved.Castagnoli.{bit_taken}
use Rattle.library_readers.proofs.saved.checksum.take_bit.Goals as goal

pub returns-then-x-eq0 : goal.returns-then-x-eq0
unfolding bit_taken
returns-then-x-eq0 c =
    rw (eq-eqb _ _ c.if-x-eq0.true)

pub returns : goal.returns
unfolding bit_taken
returns c =
    rw (ne_eqb _ _ c.if-x-eq0.false)
