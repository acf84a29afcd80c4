-- `library_replay::block::replay_with_lists` meets its contract. Assumes nothing.
use Rattle.std.specs.Prelude.{◌≡◌, ◌-◌, ◌*◌}
use Rattle.laws.specs.Basics.{sym, ◌∙◌, ap, true, arith, length, rules}
use Rattle.model.specs.Sound.{sound}
use Rattle.whole_runs.specs.WholeRuns.{Reachable}
use Rattle.trace.specs.Answers.{event_in}
use Rattle.words.specs.Layout.{run_of}
use Rattle.in_place.specs.Left.{Leaves}
use Rattle.in_place.proofs.Leaving.{same_words}
use Rattle.library_replay.proofs.Iterations.{SoFar, Takes, none_taken, same_room, one_next, none_next, one_taken, all_taken, record_read, summary_small, performs_reachable, leaves_then}
use Rattle.library_replay.proofs.block.replay_with_lists.Goals as goal

pub loop-going-init : goal.loop-going-init
loop-going-init c =
    let a = c.args in (none_taken a.all a.done (run_of a.w.now) a.block.now a.out.now, c.requires.0, c.requires.1, c.requires.2, c.requires.3, same_words a.w.now)

pub overflow_sub-out : goal.overflow_sub-out
overflow_sub-out c =
    let so_far = c.loop-going.invariant.0 in omega (arith, so_far.fits, same_room _ _ _ _ _ _ _ _ _ _ so_far)

pub overflow_add-taken : goal.overflow_add-taken
overflow_add-taken c =
    let takes : let a = c.args in let l = c.loop-going in Takes l.going a.done a.block.now l.taken (length a.out.now - l.written) = one_next _ _ _ _ _ _ _ _ _ _ c.loop-going.invariant.0 c.takes_next.ensures c.loop-going-test.true in
    omega (arith, takes.few)

pub apply-applied-requires : goal.apply-applied-requires
apply-applied-requires c =
    let inv = c.loop-going.invariant in (inv.1, inv.2, inv.3, inv.4)

pub overflow_add-done : goal.overflow_add-done
overflow_add-done c =
    let takes : let a = c.args in let l = c.loop-going in Takes l.going a.done a.block.now l.taken (length a.out.now - l.written) = one_next _ _ _ _ _ _ _ _ _ _ c.loop-going.invariant.0 c.takes_next.ensures c.loop-going-test.true in
    omega (arith, takes.few)

pub print-written-requires : goal.print-written-requires
print-written-requires c =
    let takes : let a = c.args in let l = c.loop-going in Takes l.going a.done a.block.now l.taken (length a.out.now - l.written) = one_next _ _ _ _ _ _ _ _ _ _ c.loop-going.invariant.0 c.takes_next.ensures c.loop-going-test.true in
    let l = c.loop-going in let t = takes in let small = summary_small _ _ _ _ _ c.apply-applied.ensures.performs in (small.0, omega (arith, small.1, c.apply-applied.auto.deleted, l.invariant.3), omega (arith, t.few), omega (arith, t.space, l.invariant.0.fits, same_room _ _ _ _ _ _ _ _ _ _ l.invariant.0))

pub loop-going-smaller : goal.loop-going-smaller
loop-going-smaller c =
    let takes : let a = c.args in let l = c.loop-going in Takes l.going a.done a.block.now l.taken (length a.out.now - l.written) = one_next _ _ _ _ _ _ _ _ _ _ c.loop-going.invariant.0 c.takes_next.ensures c.loop-going-test.true in
    omega (arith, takes.left)

pub loop-going-preserved : goal.loop-going-preserved
loop-going-preserved c =
    let takes : let a = c.args in let l = c.loop-going in Takes l.going a.done a.block.now l.taken (length a.out.now - l.written) = one_next _ _ _ _ _ _ _ _ _ _ c.loop-going.invariant.0 c.takes_next.ensures c.loop-going-test.true in
    let l = c.loop-going in let t = takes in let done = c.apply-applied.ensures in let read = c.decode-d.ensures ∙ ap event_in c.record_in-part.ensures ∙ record_read _ _ t.left in let printed = c.print-written.ensures in (
      one_taken _ _ _ _ _ _ _ _ _ _ l.invariant.0 t _ read _ _ _ done.performs _ _ printed.0 printed.1 _ c.goes_on-going.ensures,
      done.sound_value,
      λ e. performs_reachable _ _ _ _ _ done.performs (l.invariant.2 e),
      c.apply-applied.auto.deleted ∙ l.invariant.3,
      c.apply-applied.auto.line ∙ l.invariant.4,
      leaves_then _ _ _ l.invariant.5 done.leaves,
    )

pub shape_of-w : goal.shape_of-w
shape_of-w c =
    c.loop-going.invariant.5.size

pub shape_of-out : goal.shape_of-out
shape_of-out c =
    same_room _ _ _ _ _ _ _ _ _ _ c.loop-going.invariant.0

pub shape_of-deleted : goal.shape_of-deleted
shape_of-deleted c =
    c.loop-going.invariant.3 ∙ sym c.requires.2

pub shape_of-line : goal.shape_of-line
shape_of-line c =
    c.loop-going.invariant.4 ∙ sym c.requires.3

pub returns : goal.returns
returns c =
    let inv = c.loop-going.invariant in let whole = all_taken _ _ _ _ _ _ _ _ _ _ inv.0 (none_next _ _ _ _ _ _ _ _ _ _ inv.0 c.takes_next.ensures c.loop-going-test.false) in record { taken_value = whole.many; written_value = (whole.long, inv.0.fits); going_value = whole.goes_on; out_after = whole.lines; w_after = whole.state; leaves = inv.5 }
