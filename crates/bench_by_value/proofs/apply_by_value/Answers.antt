-- `bench_by_value::apply_by_value` meets its contract. Assumes nothing.
use Rattle.laws.specs.Basics.{◌∙◌, ap, arith, pick}
use Rattle.trace.specs.Answers.{event_in}
use Rattle.bench_by_value.proofs.Counting.{at_most_one, Takes, none_taken, next_taken, one_taken, all_taken}
use Rattle.bench_by_value.proofs.apply_by_value.Goals as goal

pub loop-run-init : goal.loop-run-init
loop-run-init c =
    none_taken _ _

pub overflow_add-accepted : goal.overflow_add-accepted
overflow_add-accepted c =
    let takes : Takes c.args.trace.now c.loop-run.taken = next_taken _ _ c.takes_next.ensures c.loop-run-test.true in
    omega (arith, takes.few, c.loop-run.invariant.less, at_most_one c.apply-after.result.accepted _ c.one_if-one.ensures)

pub overflow_add-taken : goal.overflow_add-taken
overflow_add-taken c =
    let takes : Takes c.args.trace.now c.loop-run.taken = next_taken _ _ c.takes_next.ensures c.loop-run-test.true in
    omega (arith, takes.few)

pub loop-run-smaller : goal.loop-run-smaller
loop-run-smaller c =
    let takes : Takes c.args.trace.now c.loop-run.taken = next_taken _ _ c.takes_next.ensures c.loop-run-test.true in
    omega (arith, takes.left)

pub loop-run-preserved : goal.loop-run-preserved
loop-run-preserved c =
    let takes : Takes c.args.trace.now c.loop-run.taken = next_taken _ _ c.takes_next.ensures c.loop-run-test.true in
    let read = c.decode-d.ensures ∙ ap event_in c.record_after-part.ensures in let done = c.apply-after.ensures in one_taken _ _ _ _ _ c.loop-run.invariant takes _ read _ done.run_value _ (c.one_if-one.ensures ∙ ap (λ b. pick b 1 0) done.accepted_value)

pub returns : goal.returns
returns c =
    (all_taken _ _ _ _ _ c.loop-run.invariant c.takes_next.ensures c.loop-run-test.false).0
