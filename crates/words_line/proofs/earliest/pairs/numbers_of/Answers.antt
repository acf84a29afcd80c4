-- `words_line::earliest::pairs::numbers_of` meets its contract. The loop's invariant: the pairs so far are the elements so far.
-- Assumes nothing.
use Rattle.std.specs.Prelude.{◌≡◌, ◌-◌, ◌≤◌, ◌<◌}
use Rattle.laws.specs.Basics.{refl, ℕ, arith, length, get_or, rules}
use Rattle.words_line.specs.{Through.named_at, earliest.Copying.no_named}
use Rattle.words_line.proofs.{earliest.Naming.pair_more}
use Rattle.words_line.proofs.earliest.pairs.numbers_of.Goals as goal

pub loop-k-init : goal.loop-k-init
loop-k-init c =
    (search rules, search rules, λ j lt. absurd (omega arith))

pub overflow_cast-numbers : goal.overflow_cast-numbers
overflow_cast-numbers c =
    omega (arith, c.requires.1 c.loop-k.k c.loop-k-test.true)

pub loop-k-preserved : goal.loop-k-preserved
loop-k-preserved c =
    (search rules, search rules, pair_more c.args.named c.loop-k.numbers c.loop-k.k _ c.loop-k.invariant.1 (omega (arith, c.requires.0)) c.loop-k.invariant.2 refl)

pub returns : goal.returns
returns c =
    let l = c.loop-k in record { result_len = l.invariant.1; by_index = λ k lt. l.invariant.2 k (omega (arith, c.loop-k-test.false)) }
