-- `words_process::taking_in::bit_if_risen` meets its contract. Assumes nothing.
use Rattle.laws.specs.Basics.{sym, ◌∙◌, arith, rules}
use native.Mathlib.Nat.{one-mul}
use lib.Pow.{shl_exact}
use Rattle.words_process.proofs.taking_in.bit_if_risen.Goals as goal

pub returns-then-risen : goal.returns-then-risen
returns-then-risen c =
    rw (sym c.rises-risen.ensures ∙ c.if-risen.true) (shl_exact {a = 1} 1 c.args.f 16 (omega arith) (omega (arith, c.requires)) ∙ one-mul _)

pub returns-else-risen : goal.returns-else-risen
returns-else-risen c =
    rw (sym c.rises-risen.ensures ∙ c.if-risen.false)
