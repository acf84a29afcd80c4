-- `machine_record::going::on` meets its contract. Assumes nothing.
use Rattle.laws.specs.Basics.{rules, ne_eqb}
use Rattle.machine_record.proofs.{Arriving.rest_stops, Leading.led}
use Rattle.machines.specs.Machines.{stepped}
use Rattle.machine_record.specs.{Machine.next, Lent.state_in}
use Rattle.machine_record.proofs.going.on.Goals as goal

pub after_count-requires : goal.after_count-requires
after_count-requires c =
    c.requires.6

pub after_word-requires : goal.after_word-requires
after_word-requires c =
    let p = c.requires in (p.5, p.2, p.6)

pub after_first-requires : goal.after_first-requires
after_first-requires c =
    let p = c.requires in (p.4, p.5, p.2, p.6, p.0)

pub after_write-requires : goal.after_write-requires
after_write-requires c =
    let p = c.requires in (p.0, p.1, p.2, p.3, p.7, p.6)

pub to_read-requires : goal.to_read-requires
to_read-requires c =
    let p = c.requires in (p.0, p.1, p.2)

pub after_read-requires : goal.after_read-requires
after_read-requires c =
    let p = c.requires in (p.0, p.1, p.2, p.5, p.6, p.7)

pub returns-in-1 : goal.returns-in-1
unfolding state_in
returns-in-1 c =
    rw c.in-1.is (c.after_count.ensures _ _ _ c.args.m.kept)

pub returns-in-2 : goal.returns-in-2
unfolding state_in
returns-in-2 c =
    rw c.in-2.is (c.after_word.ensures _ _)

pub returns-in-3 : goal.returns-in-3
unfolding state_in
returns-in-3 c =
    rw c.in-3.is (c.after_first.ensures _)

pub returns-in-4 : goal.returns-in-4
unfolding state_in
returns-in-4 c =
    rw c.in-4.is (c.after_write.ensures _ _ c.args.m.kept)

pub returns-in-5 : goal.returns-in-5
unfolding state_in stepped next
returns-in-5 c =
    rw c.in-5.is (c.to_read.ensures _ _ _ _)

pub returns-in-6 : goal.returns-in-6
unfolding state_in
returns-in-6 c =
    rw c.in-6.is c.after_read.ensures

pub returns-in_default : goal.returns-in_default
returns-in_default c =
    let q = c.args.m.phase in let o = c.in_default.in_default-own.rest in led (rest_stops c.args.m _ _ _ _ _ (ne_eqb q 1 o.0.0.0.0.0.1) (ne_eqb q 2 o.0.0.0.0.1) (ne_eqb q 3 o.0.0.0.1) (ne_eqb q 4 o.0.0.1) (ne_eqb q 5 o.0.1) (ne_eqb q 6 o.1))
    (c.stop.ensures _ _ _ _)
