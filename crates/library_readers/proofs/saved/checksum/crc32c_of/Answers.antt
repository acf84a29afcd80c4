-- `library_readers::saved::checksum::crc32c_of` meets its contract: after k iterations, what is left of the first k bytes. Assumes nothing.
use Rattle.std.specs.Prelude.{◌≡◌, ◌+◌, ◌-◌, ◌≤◌, ◌<◌}
use Rattle.laws.specs.Basics.{refl, sym, ◌∙◌, ap, List, ℕ, arith, length, get_or, take, rules}
use lib.Bits.{bit_xor}
use Rattle.laws.specs.Prefixes.{take_more}
use Rattle.library_readers.specs.saved.Castagnoli.{ones, byte_taken, remainder, crc32c}
use Rattle.library_readers.proofs.{saved.Division.remainder_more}
use Rattle.library_readers.proofs.saved.checksum.crc32c_of.Goals as goal

none_taken : (l : List ℕ) → ones ≡ remainder ones (take 0 l)
unfolding remainder
none_taken l = refl

one_more : (l : List ℕ) (k : ℕ) → k < length l → (rest r : ℕ) → rest ≡ remainder ones (take k l) → r ≡ byte_taken rest (get_or l k 0) → r ≡ remainder ones (take (k + 1) l)
one_more l k less rest r so_far next = next ∙ ap (λ (x : ℕ). byte_taken x (get_or l k 0)) so_far
    ∙ sym (ap (remainder ones) (take_more l k 0 less) ∙ remainder_more ones (take k l) (get_or l k 0))

pub loop-k-init : goal.loop-k-init
loop-k-init c =
    (search rules, none_taken c.args.bytes.now)

pub loop-k-preserved : goal.loop-k-preserved
loop-k-preserved c =
    let l = c.loop-k in let a = c.args in let less : l.k < length a.bytes.now = omega arith in
    (search rules, one_more a.bytes.now l.k less l.rest _ l.invariant.1 c.take_byte-next.ensures)

pub returns : goal.returns
unfolding crc32c
returns c =
    let l = c.loop-k in let e : l.k ≡ c.args.n = omega arith in
    ap (λ (x : ℕ). bit_xor x ones) (rw e at l.invariant.1)
