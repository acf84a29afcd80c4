-- `machine_console::making::cut` meets its contract. Assumes nothing.
use Rattle.laws.specs.Basics.{refl, arith, rules}
use Rattle.machine_console.proofs.making.cut.Goals as goal

pub returns-then-length-gt0 : goal.returns-then-length-gt0
returns-then-length-gt0 c =
    rw c.if-short.true refl

pub returns-then-short : goal.returns-then-short
returns-then-short c =
    rw c.if-short.true (omega (arith, c.if-length-gt0.false))

pub returns : goal.returns
returns c =
    rw c.if-short.false refl
