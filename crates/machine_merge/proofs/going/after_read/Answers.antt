-- `machine_merge::going::after_read` meets its contract.
-- Assumes nothing.
use Rattle.std.specs.Prelude.{◌≡◌, ◌≤◌}
use Rattle.laws.specs.Basics.{List, ℕ, arith, rules}
use Rattle.machines.specs.{Machines.heard_read, Forms.answer_of, Forms.taken_of, Forms.Between}
use Rattle.machine_merge.specs.declared.marks.Marks.{Marks}
use Rattle.machine_merge.specs.Words.{read_to_of, stage_of, name_of}
use Rattle.machine_merge.proofs.{Parts.read_most, Parts.wanted_most, Leading.read_bytes, Leading.read_end, Leading.read_failed, Arriving.led}
use Rattle.machines.specs.declared.heard.Taken.TheVariants as taken
use Rattle.machine_merge.proofs.going.after_read.Goals as goal

pub overflow_add-m : goal.overflow_add-m
overflow_add-m c =
    let few : (size : ℕ) → c.read-taken.result ≡ taken.Brought size → size ≤ c.wanted.result = unfold Between in λ size e. (rw e at c.read-taken.ensures.1).1 in
    omega (arith, few _ c.in-Brought.is, c.wanted.ensures, wanted_most c.args.m.count, c.requires.3)

pub returns-in-Brought : goal.returns-in-Brought
returns-in-Brought c =
    let heard : heard_read c.wanted.result (answer_of c.args.answer (read_to_of c.args.m.half c.args.m.count) c.args.input.now) ≡ taken_of c.read-taken.result (read_to_of c.args.m.half c.args.m.count) c.args.input.now = c.read-taken.ensures.0 (read_to_of c.args.m.half c.args.m.count) c.args.input.now (omega (arith, c.wanted.ensures, wanted_most c.args.m.count, read_most c.args.m.half c.args.m.count, c.requires.1)) in
    let few : (size : ℕ) → c.read-taken.result ≡ taken.Brought size → size ≤ c.wanted.result = unfold Between in λ size e. (rw e at c.read-taken.ensures.1).1 in
    let is = c.in-Brought.is in led
    (read_bytes c.args.m.half c.args.m.count c.args.input.now c.requires.1 (stage_of c.args.m c.args.input.now) (name_of c.args.m c.args.input.now) _ _ _
    c.wanted.ensures heard _ is (few _ is))
    c.go_on.ensures

pub returns-in-Ended : goal.returns-in-Ended
returns-in-Ended c =
    let heard : heard_read c.wanted.result (answer_of c.args.answer (read_to_of c.args.m.half c.args.m.count) c.args.input.now) ≡ taken_of c.read-taken.result (read_to_of c.args.m.half c.args.m.count) c.args.input.now = c.read-taken.ensures.0 (read_to_of c.args.m.half c.args.m.count) c.args.input.now (omega (arith, c.wanted.ensures, wanted_most c.args.m.count, read_most c.args.m.half c.args.m.count, c.requires.1)) in
    led
    (read_end c.args.m.half c.args.m.count c.args.input.now c.requires.1 (stage_of c.args.m c.args.input.now) (name_of c.args.m c.args.input.now) _ _ _
    c.wanted.ensures heard c.in-Ended.is)
    c.end_half.ensures

pub returns-in-Failed : goal.returns-in-Failed
returns-in-Failed c =
    let heard : heard_read c.wanted.result (answer_of c.args.answer (read_to_of c.args.m.half c.args.m.count) c.args.input.now) ≡ taken_of c.read-taken.result (read_to_of c.args.m.half c.args.m.count) c.args.input.now = c.read-taken.ensures.0 (read_to_of c.args.m.half c.args.m.count) c.args.input.now (omega (arith, c.wanted.ensures, wanted_most c.args.m.count, read_most c.args.m.half c.args.m.count, c.requires.1)) in
    led
    (read_failed c.args.m.half c.args.m.count c.args.input.now c.requires.1 (stage_of c.args.m c.args.input.now) (name_of c.args.m c.args.input.now) _ _ _
    c.wanted.ensures heard c.in-Failed.is)
    c.fail_file.ensures
