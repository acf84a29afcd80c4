-- `library_readers::saved::checksum::crc32c_of` meets its contract: after k iterations, what is left of the first k bytes. Assumes nothing.
use Rattle.std.specs.Prelude.{◌≡◌, ◌+◌, ◌-◌, ◌≤◌, ◌<◌}
use Rattle.laws.specs.Basics.{refl, sym, ◌∙◌, ap, List, ℕ, arith, length, get_or, take, rules}
use lib.Bits.{bit_xor}
use Rattle.laws.specs.Prefixes.{take_more}
use Rattle.library_readers.specs.saved.Castagnoli.{ones, byte_taken, remainder, crc32c}
use Rattle.library_readers.proofs.{saved.Division.remainder_more}
use Rattle.library_readers.proofs.saved.checksum.crc32c_of.Given as goal

abbrev pub invariant-loop-k : goal.invariant-loop-k
invariant-loop-k l = (l.k ≤ l.n) × (l.rest ≡ remainder ones (take l.k l.bytes))
