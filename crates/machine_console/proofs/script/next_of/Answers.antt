-- `machine_console::script::next_of` meets its contract, by how many bytes there are.
-- Assumes nothing.
use Rattle.laws.specs.Basics.{rules, eq-eqb, ne_eqb, lt-ltb, le-ltb}
use Rattle.machine_console.specs.script.Script.{next_of}
use Rattle.machine_console.proofs.script.next_of.Goals as goal

pub returns-then-buffered-eq0 : goal.returns-then-buffered-eq0
unfolding next_of
returns-then-buffered-eq0 c =
    rw (eq-eqb c.args.buffered 0 c.if-buffered-eq0.true)

pub returns-then-buffered-lt8 : goal.returns-then-buffered-lt8
unfolding next_of
returns-then-buffered-lt8 c =
    let buffered = c.args.buffered in rw (ne_eqb buffered 0 c.if-buffered-eq0.false, lt-ltb buffered 8 c.if-buffered-lt8.true)

pub returns : goal.returns
unfolding next_of
returns c =
    let buffered = c.args.buffered in rw (ne_eqb buffered 0 c.if-buffered-eq0.false, le-ltb buffered 8 c.if-buffered-lt8.false) c.call_of.ensures
