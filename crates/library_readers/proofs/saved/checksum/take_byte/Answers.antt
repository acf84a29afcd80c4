-- `library_readers::saved::checksum::take_byte` meets its contract. Assumes nothing.
use Rattle.std.specs.Prelude.{◌≡◌, ◌-◌, ◌≤◌}
use Rattle.laws.specs.Basics.{◌∙◌, ap, ℕ, arith, rules}
use lib.Bits.{bit_xor}
use Rattle.laws.specs.Loops.{iter, iter_none, iter_more}
use Rattle.library_readers.specs.saved.Castagnoli.{bit_taken, byte_taken}
use Rattle.library_readers.proofs.saved.checksum.take_byte.Goals as goal

pub loop-k-init : goal.loop-k-init
loop-k-init c =
    (search rules, search rules, iter_none (λ i. bit_taken) _)

pub loop-k-preserved : goal.loop-k-preserved
loop-k-preserved c =
    let l = c.loop-k in (search rules, l.invariant.1, iter_more (λ i. bit_taken) _ l.rest l.k _ l.invariant.2 c.take_bit-next.ensures)

pub returns : goal.returns
unfolding byte_taken
returns c =
    let l = c.loop-k in let e : l.k ≡ 8 = omega arith in
    rw e at l.invariant.2 ∙ ap (λ (b : ℕ). iter 8 (λ i. bit_taken) (bit_xor c.args.x b)) l.invariant.1
