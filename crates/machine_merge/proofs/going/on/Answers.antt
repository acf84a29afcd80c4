-- `machine_merge::going::on` meets its contract.
-- Assumes nothing.
use Rattle.laws.specs.Basics.{rules, ne_eqb}
use Rattle.machine_merge.specs.Words.{half_at_of, stage_of, name_of, state_in, place_in}
use Rattle.machine_merge.proofs.{Arriving.led, Arriving.rest_stops}
use Rattle.machine_merge.proofs.going.on.Goals as goal

pub returns-in-1 : goal.returns-in-1
unfolding state_in place_in
returns-in-1 c =
    rw c.in-1.is (c.after_count.ensures 0 c.args.input.now c.requires.1)

pub returns-in-2 : goal.returns-in-2
unfolding state_in place_in
returns-in-2 c =
    rw c.in-2.is c.after_set.ensures

pub returns-in-3 : goal.returns-in-3
unfolding state_in place_in stage_of
returns-in-3 c =
    rw c.in-3.is c.after_name.ensures

pub returns-in-4 : goal.returns-in-4
unfolding state_in place_in stage_of name_of
returns-in-4 c =
    rw c.in-4.is (c.after_open.ensures (half_at_of c.args.m.half))

pub returns-in-5 : goal.returns-in-5
unfolding state_in place_in stage_of name_of
returns-in-5 c =
    rw c.in-5.is c.after_read.ensures

pub returns-in-6 : goal.returns-in-6
unfolding state_in place_in
returns-in-6 c =
    rw c.in-6.is (c.after_write.ensures _ _ c.args.input.now)

pub returns-in_default : goal.returns-in_default
returns-in_default c =
    let q = c.args.m.phase in let o = c.in_default.in_default-own.rest in led
    (rest_stops c.args.m _ _ _ (ne_eqb q 1 o.0.0.0.0.0.1) (ne_eqb q 2 o.0.0.0.0.1) (ne_eqb q 3 o.0.0.0.1) (ne_eqb q 4 o.0.0.1) (ne_eqb q 5 o.0.1) (ne_eqb q 6 o.1))
    (c.stop.ensures _ _)
