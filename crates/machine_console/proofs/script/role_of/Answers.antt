-- `machine_console::script::role_of` meets its contract, test by test.
-- Assumes nothing.
use Rattle.laws.specs.Basics.{eq-eqb, ne_eqb}
use Rattle.machine_console.specs.script.Script.{role_of_def}
use Rattle.machine_console.proofs.script.role_of.Goals as goal

pub returns-then-who-eq0 : goal.returns-then-who-eq0
unfolding role_of_def
returns-then-who-eq0 c =
    rw (eq-eqb _ 0 c.if-who-eq0.true)

pub returns-then-who-eq128 : goal.returns-then-who-eq128
unfolding role_of_def
returns-then-who-eq128 c =
    rw c.if-who-eq128.true

pub returns-then-who-eq1 : goal.returns-then-who-eq1
unfolding role_of_def
returns-then-who-eq1 c =
    rw c.if-who-eq1.true

pub returns-then-who-eq129 : goal.returns-then-who-eq129
unfolding role_of_def
returns-then-who-eq129 c =
    rw c.if-who-eq129.true

pub returns : goal.returns
unfolding role_of_def
returns c =
    let who = c.args.who in rw (ne_eqb who 0 c.if-who-eq0.false, ne_eqb who 128 c.if-who-eq128.false, ne_eqb who 1 c.if-who-eq1.false, ne_eqb who 129 c.if-who-eq129.false)
