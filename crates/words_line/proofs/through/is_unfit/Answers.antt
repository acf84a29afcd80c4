-- `words_line::through::is_unfit` meets its contract. Assumes nothing.
use Rattle.std.specs.Prelude.{◌≡◌, ◌||◌}
use Rattle.laws.specs.Basics.{rules, eq-eqb, ne_eqb, lt-ltb, le-ltb}
use Rattle.words_line.proofs.through.is_unfit.Goals as goal

pub returns-then-m-eq0 : goal.returns-then-m-eq0
returns-then-m-eq0 c =
    let a = c.args in rw (eq-eqb a.m 0 c.if-m-eq0.true)

pub returns-then-n-m : goal.returns-then-n-m
returns-then-n-m c =
    let a = c.args in rw (ne_eqb a.m 0 c.if-m-eq0.false, lt-ltb a.n a.m c.if-n-m.true)

pub returns : goal.returns
returns c =
    let a = c.args in rw (ne_eqb a.m 0 c.if-m-eq0.false, le-ltb a.n a.m c.if-n-m.false) c.names_twice.ensures
