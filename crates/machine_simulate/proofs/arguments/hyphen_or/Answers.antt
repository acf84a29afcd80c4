-- `machine_simulate::arguments::hyphen_or` meets its contract.
-- Assumes nothing.
use Rattle.laws.specs.Basics.{rules}
use Rattle.machine_simulate.proofs.{Numbers.hyphen_known, Numbers.hyphen_here, Numbers.no_hyphen}
use Rattle.machine_simulate.proofs.arguments.hyphen_or.Goals as goal

pub returns-then-place-size : goal.returns-then-place-size
returns-then-place-size c =
    let a = c.args in (hyphen_known a.size a.i a.byte a.place c.if-place-size.true, c.requires.1)

pub returns-then-byte-eq45 : goal.returns-then-byte-eq45
returns-then-byte-eq45 c =
    let a = c.args in (hyphen_here a.size a.i a.byte a.place (search rules) c.if-byte-eq45.true, c.requires.0)

pub returns : goal.returns
returns c =
    let a = c.args in (no_hyphen a.size a.i a.byte a.place (search rules) c.if-byte-eq45.false, c.requires.1)
