-- `machines::programs::numbers::append` meets its contract, test by test.
-- Assumes nothing.
use Rattle.laws.specs.Basics.{arith, rules}
use Rattle.machines.proofs.programs.Digits.{below_digits, above_digits, kept_as_it_is, now_too_great, appended_is}
use Rattle.machines.proofs.programs.numbers.append.Goals as goal

pub returns-then-byte-lt48 : goal.returns-then-byte-lt48
returns-then-byte-lt48 c =
    let a = c.args in (λ word e. below_digits a.byte c.if-byte-lt48.true word, omega arith)

pub returns-then-byte-gt57 : goal.returns-then-byte-gt57
returns-then-byte-gt57 c =
    let a = c.args in (λ word e. above_digits a.byte (search rules) c.if-byte-gt57.true word, omega arith)

pub returns-then-value-gt-GREATEST : goal.returns-then-value-gt-GREATEST
returns-then-value-gt-GREATEST c =
    let a = c.args in (kept_as_it_is a.byte (search rules) (search rules) a.value c.if-value-gt-GREATEST.true, search rules)

pub returns-then-next-gt-GREATEST : goal.returns-then-next-gt-GREATEST
returns-then-next-gt-GREATEST c =
    let a = c.args in (now_too_great a.byte (search rules) (search rules) a.value (search rules) c.if-next-gt-GREATEST.true, omega arith)

pub returns : goal.returns
returns c =
    let a = c.args in (appended_is a.byte (search rules) (search rules) a.value (search rules) (search rules), search rules)
