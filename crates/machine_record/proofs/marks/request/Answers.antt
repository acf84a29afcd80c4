-- `machine_record::marks::request` meets its contract: the arm of the `match` says which case holds. Assumes nothing.
use Rattle.laws.specs.Basics.{refl, rules, ne_eqb}
use Rattle.machine_record.specs.Lent.{asks_for}
use Rattle.machine_record.proofs.marks.request.Goals as goal

pub returns-in-1 : goal.returns-in-1
unfolding asks_for
returns-in-1 c =
    rw c.in-1.is refl

pub returns-in-2 : goal.returns-in-2
unfolding asks_for
returns-in-2 c =
    rw c.in-2.is refl

pub returns-in-3 : goal.returns-in-3
unfolding asks_for
returns-in-3 c =
    rw c.in-3.is refl

pub returns-in-4 : goal.returns-in-4
unfolding asks_for
returns-in-4 c =
    rw c.in-4.is refl

pub returns-in-5 : goal.returns-in-5
unfolding asks_for
returns-in-5 c =
    rw c.in-5.is refl

pub returns-in-6 : goal.returns-in-6
unfolding asks_for
returns-in-6 c =
    rw (c.in-6.is, c.most_to_read.ensures) refl

pub returns-in-7 : goal.returns-in-7
unfolding asks_for
returns-in-7 c =
    rw c.in-7.is refl

pub returns-in-8 : goal.returns-in-8
unfolding asks_for
returns-in-8 c =
    rw c.in-8.is refl

pub returns-in_default : goal.returns-in_default
unfolding asks_for
returns-in_default c =
    let p = c.args.m.phase in let o = c.in_default.in_default-own.rest in rw (ne_eqb p 1 o.0.0.0.0.0.0.0.1, ne_eqb p 2 o.0.0.0.0.0.0.1, ne_eqb p 3 o.0.0.0.0.0.1, ne_eqb p 4 o.0.0.0.0.1, ne_eqb p 5 o.0.0.0.1, ne_eqb p 6 o.0.0.1, ne_eqb p 7 o.0.1, ne_eqb p 8 o.1) refl
