-- `machine_console::marks::most_done` meets its contract. Assumes nothing.
use Rattle.laws.specs.Basics.{refl, eq-eqb, ne_eqb}
use Rattle.machine_console.specs.Lent.{most_done_of}
use Rattle.machine_console.proofs.marks.most_done.Goals as goal

pub returns-then-phase-eq-READING : goal.returns-then-phase-eq-READING
unfolding most_done_of
returns-then-phase-eq-READING c =
    rw (eq-eqb c.args.phase 2 c.if-phase-eq-READING.true) refl

pub returns : goal.returns
unfolding most_done_of
returns c =
    rw (ne_eqb c.args.phase 2 c.if-phase-eq-READING.false) refl
