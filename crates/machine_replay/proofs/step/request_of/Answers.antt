-- `machine_replay::step::request_of` meets its contract.
-- Assumes nothing.
use Rattle.std.specs.Prelude.{◌-◌}
use Rattle.laws.specs.Basics.{refl, sym, ◌∙◌, ap, ℕ, arith, rules, not-true, not-false}
use Rattle.machines.specs.{Machines.Read, Forms.request_of_def, Forms.Placed, Forms.GoesTo}
use Rattle.machine_replay.specs.{Replaying.asks, Standing.Holds}
use Rattle.machine_replay.proofs.Places.{in_lists, enough_input, outside_stopped, is_starting, is_counted, is_opening, is_reading, is_printing, is_ending, is_failing, is_stopped}
use Rattle.machine_replay.proofs.{Starts.most_same}
use Rattle.machine_replay.proofs.step.request_of.Goals as goal

pub returns-then-not-is_inside : goal.returns-then-not-is_inside
unfolding request_of_def asks Placed GoesTo
returns-then-not-is_inside c =
    let a = c.args in let tested = c.is_inside in record { stands = rw (outside_stopped a.p a.words.now a.input.now a.out.now (sym tested.ensures ∙ c.if-not-is_inside.true)); inside = tt; there = tt }

pub fill_to-requires : goal.fill_to-requires
fill_to-requires c =
    let holds : Holds c.args.p c.args.words.now c.args.input.now c.args.out.now = record { room = c.requires; there = sym c.is_inside.ensures ∙ c.if-not-is_inside.false } in
    omega (arith, (in_lists holds).few)

pub overflow_sub-result : goal.overflow_sub-result
overflow_sub-result c =
    let holds : Holds c.args.p c.args.words.now c.args.input.now c.args.out.now = record { room = c.requires; there = sym c.is_inside.ensures ∙ c.if-not-is_inside.false } in
    let there = in_lists holds in omega (arith, c.fill_to.ensures, there.few, (there.front (λ e. omega (arith, c.in-3.is))).0, enough_input _ _ _ c.requires)

pub returns-in-0 : goal.returns-in-0
unfolding request_of_def asks Placed GoesTo
returns-in-0 c =
    let holds : Holds c.args.p c.args.words.now c.args.input.now c.args.out.now = record { room = c.requires; there = sym c.is_inside.ensures ∙ c.if-not-is_inside.false } in
    record { stands = rw (is_starting holds c.in-0.is); inside = tt; there = tt }

pub returns-in-1 : goal.returns-in-1
unfolding request_of_def asks Placed GoesTo
returns-in-1 c =
    let holds : Holds c.args.p c.args.words.now c.args.input.now c.args.out.now = record { room = c.requires; there = sym c.is_inside.ensures ∙ c.if-not-is_inside.false } in
    record { stands = rw (is_counted holds c.in-1.is); inside = omega (arith, ((in_lists holds).front (λ e. omega (arith, c.in-1.is))).0, enough_input _ _ _ c.requires); there = refl }

pub returns-in-2 : goal.returns-in-2
unfolding request_of_def asks Placed GoesTo
returns-in-2 c =
    let holds : Holds c.args.p c.args.words.now c.args.input.now c.args.out.now = record { room = c.requires; there = sym c.is_inside.ensures ∙ c.if-not-is_inside.false } in
    record { stands = rw (is_opening holds c.in-2.is); inside = omega (arith, ((in_lists holds).front (λ e. omega (arith, c.in-2.is))).0, enough_input _ _ _ c.requires); there = refl }

pub returns-in-3 : goal.returns-in-3
unfolding request_of_def asks Placed GoesTo
returns-in-3 c =
    let holds : Holds c.args.p c.args.words.now c.args.input.now c.args.out.now = record { room = c.requires; there = sym c.is_inside.ensures ∙ c.if-not-is_inside.false } in
    let a = c.args in let there = in_lists holds in let front = there.front (λ e. omega (arith, c.in-3.is)) in record {
      stands = rw (is_reading holds c.in-3.is) (ap (λ (k : ℕ). Read (k - a.p.buffered)) c.fill_to.ensures ∙ ap Read (most_same a.p a.words.now a.input.now front.1 there.bytes));
      inside = omega (arith, c.fill_to.ensures, there.few, front.0, enough_input _ _ _ c.requires);
      there = refl;
    }

pub returns-in-4 : goal.returns-in-4
unfolding request_of_def asks Placed GoesTo
returns-in-4 c =
    let holds : Holds c.args.p c.args.words.now c.args.input.now c.args.out.now = record { room = c.requires; there = sym c.is_inside.ensures ∙ c.if-not-is_inside.false } in
    record { stands = rw (is_printing holds c.in-4.is); inside = (in_lists holds).text; there = tt }

pub returns-in-5 : goal.returns-in-5
unfolding request_of_def asks Placed GoesTo
returns-in-5 c =
    let holds : Holds c.args.p c.args.words.now c.args.input.now c.args.out.now = record { room = c.requires; there = sym c.is_inside.ensures ∙ c.if-not-is_inside.false } in
    record { stands = rw (is_ending holds c.in-5.is); inside = (in_lists holds).text; there = tt }

pub returns-in-6 : goal.returns-in-6
unfolding request_of_def asks Placed GoesTo
returns-in-6 c =
    let holds : Holds c.args.p c.args.words.now c.args.input.now c.args.out.now = record { room = c.requires; there = sym c.is_inside.ensures ∙ c.if-not-is_inside.false } in
    record { stands = rw (is_failing holds c.in-6.is); inside = (in_lists holds).text; there = tt }

pub returns-in_default : goal.returns-in_default
unfolding request_of_def asks Placed GoesTo
returns-in_default c =
    let holds : Holds c.args.p c.args.words.now c.args.input.now c.args.out.now = record { room = c.requires; there = sym c.is_inside.ensures ∙ c.if-not-is_inside.false } in
    let others = c.in_default.in_default-own.rest in record {
      stands = rw (is_stopped holds others.0.0.0.0.0.0.1 others.0.0.0.0.0.1 others.0.0.0.0.1 others.0.0.0.1 others.0.0.1 others.0.1 others.1);
      inside = tt;
      there = tt;
    }
