-- `machine_console::going::on` meets its contract. Assumes nothing.
use Rattle.laws.specs.Basics.{rules, ne_eqb}
use Rattle.machine_console.specs.Lent.{state_in}
use Rattle.machine_console.proofs.{Arriving.rest_stops, Arriving.reading_done, Leading.led}
use Rattle.machine_console.proofs.going.on.Goals as goal

pub after_read-requires : goal.after_read-requires
after_read-requires c =
    let p = c.requires in (reading_done c.args.m c.in-2.is p.0, p.1, p.2, p.3, p.4)

pub returns-in-1 : goal.returns-in-1
unfolding state_in
returns-in-1 c =
    rw c.in-1.is c.after_first.ensures

pub returns-in-2 : goal.returns-in-2
unfolding state_in
returns-in-2 c =
    rw c.in-2.is c.after_read.ensures

pub returns-in-3 : goal.returns-in-3
unfolding state_in
returns-in-3 c =
    rw c.in-3.is (c.after_line.ensures _ _ c.args.m.kept)

pub returns-in-4 : goal.returns-in-4
unfolding state_in
returns-in-4 c =
    rw c.in-4.is (c.after_last.ensures _ _ c.args.m.kept)

pub returns-in_default : goal.returns-in_default
returns-in_default c =
    let q = c.args.m.phase in let o = c.in_default.in_default-own.rest in led (rest_stops c.args.m _ _ _ _ (ne_eqb q 1 o.0.0.0.1) (ne_eqb q 2 o.0.0.1) (ne_eqb q 3 o.0.1) (ne_eqb q 4 o.1)) (c.stop.ensures _ _ _)
