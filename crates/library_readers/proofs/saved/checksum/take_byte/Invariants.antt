-- `library_readers::saved::checksum::take_byte` meets its contract. Assumes nothing.
use Rattle.std.specs.Prelude.{◌≡◌, ◌-◌, ◌≤◌}
use Rattle.laws.specs.Basics.{◌∙◌, ap, ℕ, arith, rules}
use lib.Bits.{bit_xor}
use Rattle.laws.specs.Loops.{iter, iter_none, iter_more}
use Rattle.library_readers.specs.saved.Castagnoli.{bit_taken, byte_taken}
use Rattle.library_readers.proofs.saved.checksum.take_byte.Given as goal

abbrev pub invariant-loop-k : goal.invariant-loop-k
invariant-loop-k l = (l.k ≤ 8) × (l.wider ≡ l.byte) × (l.rest ≡ iter l.k (λ i. bit_taken) (bit_xor l.x l.wider))
