-- `machines::programs::numbers::number_in` meets its contract. The loop's invariant: the number that the first i digits are.
-- Assumes nothing.
use Rattle.std.specs.Prelude.{◌≡◌}
use Rattle.laws.specs.Basics.{refl, ◌∙◌, ap, Some, arith, length, rules}
use Rattle.laws.specs.Loops.{iter_more}
use Rattle.machines.specs.programs.Numbers.{stands_for}
use Rattle.machines.proofs.programs.Digits.{no_word, first_value, number_is}
use Rattle.machines.proofs.programs.numbers.number_in.Goals as goal

pub returns-then-word-eq0 : goal.returns-then-word-eq0
returns-then-word-eq0 c =
    no_word _ c.if-word-eq0.true

pub loop-i-init : goal.loop-i-init
loop-i-init c =
    (search rules, search rules, first_value _)

pub loop-i-preserved : goal.loop-i-preserved
loop-i-preserved c =
    let l = c.loop-i in (search rules, c.append-next.ensures.1, c.append-next.ensures.0 _ l.invariant.2 ∙ ap stands_for (iter_more _ (Some 0) _ l.i _ refl refl))

pub returns : goal.returns
returns c =
    let l = c.loop-i in let e : l.i ≡ length c.args.word.now = omega arith in
    number_is c.args.word.now l.value c.if-word-eq0.false (rw e at l.invariant.2)
