-- `words_process::pins::bit` meets its contract. Assumes nothing.
use Rattle.laws.specs.Basics.{◌∙◌, arith, rules}
use native.Mathlib.Nat.{one-mul}
use lib.Pow.{shl_exact}
use Rattle.words_process.proofs.pins.bit.Goals as goal

pub returns : goal.returns
returns c =
    shl_exact {a = 1} 1 c.args.f 16 (omega arith) (omega (arith, c.requires)) ∙ one-mul _
