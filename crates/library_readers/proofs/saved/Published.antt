-- The check value that is published with CRC-32C: the checksum of the nine bytes "123456789" is E3069283 in hexadecimal.
-- Assumes nothing.
use Rattle.std.specs.Prelude.{◌≡◌, ◌∷◌}
use Rattle.laws.specs.Basics.{refl, []}
use Rattle.laws.specs.Loops.{iter}
use Rattle.library_readers.specs.saved.Castagnoli.{bit_taken, byte_taken, remainder, crc32c}

pub published : crc32c (49 ∷ 50 ∷ 51 ∷ 52 ∷ 53 ∷ 54 ∷ 55 ∷ 56 ∷ 57 ∷ []) ≡ 3_808_858_755
unfolding iter bit_taken byte_taken remainder crc32c
published = refl
