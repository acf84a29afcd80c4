-- `bench_in_place::apply_all` meets its contract. Assumes nothing.
use Rattle.laws.specs.Basics.{sym, ◌∙◌, ap, arith, eqb, pick}
use Rattle.whole_runs.specs.{Outcomes.Report}
use Rattle.whole_runs.proofs.WholeRuns.{reachable_sound}
use Rattle.trace.specs.Answers.{event_in}
use Rattle.listing.specs.Summarised.{report_in}
use Rattle.in_place.proofs.Leaving.{same_words}
use Rattle.library_replay.proofs.Iterations.{performs_reachable, leaves_then}
use Rattle.bench_by_value.proofs.Counting.{at_most_one, Takes, none_taken, next_taken, one_taken, all_taken}
use Rattle.bench_in_place.proofs.apply_all.Goals as goal

pub loop-part-init : goal.loop-part-init
loop-part-init c =
    (none_taken _ _, sym (reachable_sound _ c.requires.0), c.requires.0, c.requires.1, c.requires.2, same_words _)

pub apply-applied-requires : goal.apply-applied-requires
apply-applied-requires c =
    let inv = c.loop-part.invariant in (inv.1, (λ e. inv.2), inv.3, inv.4)

pub overflow_add-accepted : goal.overflow_add-accepted
overflow_add-accepted c =
    let takes : Takes c.args.trace.now c.loop-part.taken = next_taken _ _ c.takes_next.ensures c.loop-part-test.true in
    omega (arith, takes.few, c.loop-part.invariant.0.less, at_most_one _ _ c.one_if-one.ensures)

pub overflow_add-taken : goal.overflow_add-taken
overflow_add-taken c =
    let takes : Takes c.args.trace.now c.loop-part.taken = next_taken _ _ c.takes_next.ensures c.loop-part-test.true in
    omega (arith, takes.few)

pub loop-part-smaller : goal.loop-part-smaller
loop-part-smaller c =
    let takes : Takes c.args.trace.now c.loop-part.taken = next_taken _ _ c.takes_next.ensures c.loop-part-test.true in
    omega (arith, takes.left)

pub loop-part-preserved : goal.loop-part-preserved
unfolding report_in
loop-part-preserved c =
    let takes : Takes c.args.trace.now c.loop-part.taken = next_taken _ _ c.takes_next.ensures c.loop-part-test.true in
    let l = c.loop-part in let a = c.apply-applied in let read = c.decode-d.ensures ∙ ap event_in c.record_after-part.ensures in let one = c.one_if-one.ensures ∙ ap (λ k. pick (eqb k 0) 1 0) c.number.ensures ∙ ap (λ (r : Report). pick (eqb r.refused 0) 1 0) a.ensures.performs.says.report in (
      one_taken _ _ _ _ _ l.invariant.0 takes _ read _ a.ensures.performs.state _ one,
      a.ensures.sound_value,
      performs_reachable _ _ _ _ _ a.ensures.performs l.invariant.2,
      a.auto.deleted ∙ l.invariant.3,
      a.auto.line ∙ l.invariant.4,
      leaves_then _ _ _ l.invariant.5 a.ensures.leaves,
    )

pub shape_of-w : goal.shape_of-w
shape_of-w c =
    c.loop-part.invariant.5.size

pub shape_of-deleted : goal.shape_of-deleted
shape_of-deleted c =
    c.loop-part.invariant.3 ∙ sym c.requires.1

pub shape_of-line : goal.shape_of-line
shape_of-line c =
    c.loop-part.invariant.4 ∙ sym c.requires.2

pub returns : goal.returns
returns c =
    let inv = c.loop-part.invariant in let all = all_taken _ _ _ _ _ inv.0 c.takes_next.ensures c.loop-part-test.false in record { value = all.0; w_after = all.1; leaves = inv.5 }
