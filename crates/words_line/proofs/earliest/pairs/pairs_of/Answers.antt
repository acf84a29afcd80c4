-- `words_line::earliest::pairs::pairs_of` meets its contract. Assumes nothing.
use Rattle.std.specs.Prelude.{◌≡◌, ◌≤◌, ◌<◌}
use Rattle.laws.specs.Basics.{refl, arith, ltb, leb, replicate, rules, ltb-true, leb-true}
use Rattle.laws.specs.Truth.{and_out}
use Rattle.words_line.specs.earliest.Copying.{IsCopy}
use Rattle.words_line.proofs.earliest.Naming.{process_low, whole_same, rest_same, same_numbers, not_whole}
use Rattle.words_line.proofs.earliest.pairs.pairs_of.Goals as goal

pub numbers_of-numbers-requires : goal.numbers_of-numbers-requires
unfolding IsCopy
numbers_of-numbers-requires c =
    let few : c.args.copied.length ≤ 16 = let t = c.args.copied in leb-true t.length 16 (and_out (leb t.length 16) (ltb t.process 16) c.if-m-process.true).0 in
    let low : c.args.copied.process < 16 = let t = c.args.copied in ltb-true t.process 16 (and_out (leb t.length 16) (ltb t.process 16) c.if-m-process.true).1 in
    (few, process_low c.args.copied c.requires.0 c.requires.1 few low)

pub overflow_mul-result : goal.overflow_mul-result
overflow_mul-result c =
    let few : c.args.copied.length ≤ 16 = let t = c.args.copied in leb-true t.length 16 (and_out (leb t.length 16) (ltb t.process 16) c.if-m-process.true).0 in
    omega (arith, few)

pub returns-then-m-process : goal.returns-then-m-process
returns-then-m-process c =
    let few : c.args.copied.length ≤ 16 = let t = c.args.copied in leb-true t.length 16 (and_out (leb t.length 16) (ltb t.process 16) c.if-m-process.true).0 in
    let t = c.args.copied in record { end_in_bounds = omega (arith, few, c.numbers_of-numbers.ensures.result_len); same_line = λ l e. whole_same t l e few c.numbers_of-numbers.result c.numbers_of-numbers.ensures.result_len c.numbers_of-numbers.ensures.by_index }

pub returns : goal.returns
returns c =
    let t = c.args.copied in let x = c.at_most_processes-most.result in record { end_in_bounds = omega arith; same_line = λ l e. rest_same x (replicate 34 x) refl (same_numbers x) t l e c.at_most_processes-most.ensures (not_whole t.length t.process c.if-m-process.false) }
