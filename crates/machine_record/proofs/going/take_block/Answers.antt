-- `machine_record::going::take_block` meets its contract. Assumes nothing.
use Rattle.std.specs.Prelude.{◌+◌, ◌-◌, ◌*◌, ◌≤◌}
use Rattle.laws.specs.Basics.{refl, sym, ◌∙◌, List, ℕ, arith, length-take-le, rules}
use Rattle.whole_runs.specs.Listing.{most_records}
use Rattle.machine_record.specs.{declared.block.Taken.Taken, declared.marks.Marks.Marks, Lent.longest_trace}
use Rattle.machine_record.proofs.{Arriving.arrives_write, Arriving.none_to_write, Leading.led}
use Rattle.machine_record.proofs.Kept.{Took, whole_inside, done_before, left_most, rest_few, block_is}
use Rattle.machine_record.proofs.going.take_block.Goals as goal

pub overflow_add-end : goal.overflow_add-end
overflow_add-end c =
    let h = c.requires.3 in search rules

pub slice_bounds-take_all-end : goal.slice_bounds-take_all-end
slice_bounds-take_all-end c =
    omega (arith, c.requires.3, c.requires.4)

pub slice_bounds-take_all-end-2 : goal.slice_bounds-take_all-end-2
slice_bounds-take_all-end-2 c =
    sym (length-take-le (c.args.m.kept + c.args.size) c.args.input.now (omega (arith, c.requires.3, c.requires.4)))

pub take_all-t-requires : goal.take_all-t-requires
take_all-t-requires c =
    let n = length-take-le (c.args.m.kept + c.args.size) c.args.input.now (omega (arith, c.requires.3, c.requires.4)) in (omega (arith, n, c.requires.3), omega (arith, c.requires.5), c.requires.6, omega (arith, n, c.requires.3, c.requires.1))

pub overflow_sub-from : goal.overflow_sub-from
overflow_sub-from c =
    let took : Took c.args.m c.args.words.now c.take_all-t.new.w c.args.input.now c.args.out.now c.args.lines.now c.take_all-t.new.out c.take_all-t.new.lines (c.args.m.kept + c.args.size) c.take_all-t.result = record { inside = omega (arith, c.requires.3, c.requires.4); all = c.take_all-t.ensures } in
    omega (arith, done_before took)

pub overflow_mul-from : goal.overflow_mul-from
overflow_mul-from c =
    let took : Took c.args.m c.args.words.now c.take_all-t.new.w c.args.input.now c.args.out.now c.args.lines.now c.take_all-t.new.out c.take_all-t.new.lines (c.args.m.kept + c.args.size) c.take_all-t.result = record { inside = omega (arith, c.requires.3, c.requires.4); all = c.take_all-t.ensures } in
    let h = whole_inside took in let k = c.requires.3 in search rules

pub overflow_sub-rest : goal.overflow_sub-rest
overflow_sub-rest c =
    let took : Took c.args.m c.args.words.now c.take_all-t.new.w c.args.input.now c.args.out.now c.args.lines.now c.take_all-t.new.out c.take_all-t.new.lines (c.args.m.kept + c.args.size) c.take_all-t.result = record { inside = omega (arith, c.requires.3, c.requires.4); all = c.take_all-t.ensures } in
    omega (arith, whole_inside took)

pub keep-requires : goal.keep-requires
keep-requires c =
    let took : Took c.args.m c.args.words.now c.take_all-t.new.w c.args.input.now c.args.out.now c.args.lines.now c.take_all-t.new.out c.take_all-t.new.lines (c.args.m.kept + c.args.size) c.take_all-t.result = record { inside = omega (arith, c.requires.3, c.requires.4); all = c.take_all-t.ensures } in
    (omega arith, whole_inside took, omega (arith, took.inside))

pub to_report-requires : goal.to_report-requires
to_report-requires c =
    let took : Took c.args.m c.args.words.now c.take_all-t.new.w c.args.input.now c.args.out.now c.args.lines.now c.take_all-t.new.out c.take_all-t.new.lines (c.args.m.kept + c.args.size) c.take_all-t.result = record { inside = omega (arith, c.requires.3, c.requires.4); all = c.take_all-t.ensures } in
    let few_left : c.take_all-t.result.left ≤ longest_trace = omega (arith, left_most took, c.requires.0) in
    let few_done : c.take_all-t.result.done ≤ most_records = omega (arith, whole_inside took, done_before took, c.requires.3, c.requires.1) in
    let w = took.all in (few_left, few_done, rest_few took, omega (arith, w.pending, w.lines_length, c.requires.6), omega (arith, w.pending, w.out_length, c.requires.5))

pub returns-then-t-eq0 : goal.returns-then-t-eq0
returns-then-t-eq0 c =
    let took : Took c.args.m c.args.words.now c.take_all-t.new.w c.args.input.now c.args.out.now c.args.lines.now c.take_all-t.new.out c.take_all-t.new.lines (c.args.m.kept + c.args.size) c.take_all-t.result = record { inside = omega (arith, c.requires.3, c.requires.4); all = c.take_all-t.ensures } in
    let kept = c.keep in let next : Marks = record { phase = 4; left = c.take_all-t.result.left; done = c.take_all-t.result.done; kept = (c.args.m.kept + c.args.size) - 4 * (c.take_all-t.result.done - c.args.m.done); size = c.take_all-t.result.size; pending = c.take_all-t.result.pending } in
    led (block_is took _ kept.ensures ∙ none_to_write next c.take_all-t.new.w kept.new.buffer c.take_all-t.new.out c.take_all-t.new.lines c.if-t-eq0.true) (c.to_report.ensures _ _)

pub returns : goal.returns
returns c =
    let took : Took c.args.m c.args.words.now c.take_all-t.new.w c.args.input.now c.args.out.now c.args.lines.now c.take_all-t.new.out c.take_all-t.new.lines (c.args.m.kept + c.args.size) c.take_all-t.result = record { inside = omega (arith, c.requires.3, c.requires.4); all = c.take_all-t.ensures } in
    let few_left : c.take_all-t.result.left ≤ longest_trace = omega (arith, left_most took, c.requires.0) in
    let few_done : c.take_all-t.result.done ≤ most_records = omega (arith, whole_inside took, done_before took, c.requires.3, c.requires.1) in
    let w = took.all in led (block_is took _ c.keep.ensures)
    (arrives_write _ _ _ _ _ refl few_left few_done (rest_few took) (omega (arith, w.size, w.out_length)) w.pending c.if-t-eq0.false)
