-- `machine_record::block::take_all` meets its contract: so far the records in front of a place are taken. Assumes nothing.
use Rattle.std.specs.Prelude.{◌≡◌, ◌+◌, ◌-◌, ◌≤◌}
use Rattle.laws.specs.Basics.{refl, ◌∙◌, arith, length, rules}
use Rattle.words.specs.Layout.{run_of}
use Rattle.machine_record.proofs.Blocks.{SoFar, none_so_far, event_at, one_more, all_so_far}
use Rattle.machine_record.proofs.block.take_all.Goals as goal

pub loop-at-init : goal.loop-at-init
loop-at-init c =
    (none_so_far _ _ _ _ _ _, refl)

pub overflow_sub-block : goal.overflow_sub-block
overflow_sub-block c =
    omega (arith, c.loop-at.invariant.0.inside)

pub take_one-next-requires : goal.take_one-next-requires
take_one-next-requires c =
    let i = c.loop-at.invariant.0 in let p = c.requires in let more = c.loop-at-test.true in (omega (arith, i.size, i.out_length, i.inside, p.0, p.1, more), omega (arith, i.pending, i.lines_length, i.inside, p.0, p.2, more), omega (arith, i.count, i.inside, p.3), omega (arith, i.size, i.inside, p.0))

pub loop-at-smaller : goal.loop-at-smaller
loop-at-smaller c =
    omega (arith, c.loop-at.invariant.0.inside, c.loop-at-test.true)

pub loop-at-preserved : goal.loop-at-preserved
loop-at-preserved c =
    let loop = c.loop-at in let i = loop.invariant.0 in let p = c.requires in let four = c.loop-at-test.true in let one = c.take_one-next in let more : loop.at + 4 ≤ length c.args.block.now = omega (arith, i.inside, four) in (
      one_more _ _ _ _ _ _ _ _ _ i more _ (event_at _ _ _ more c.record_part-part.ensures) _ _ _ _ one.ensures
          (omega (arith, i.size, i.out_length, i.inside, p.0, p.1, four))
          (omega (arith, i.pending, i.lines_length, i.inside, p.0, p.2, four)),
      one.auto.w ∙ loop.invariant.1,
    )

pub shape_of-w : goal.shape_of-w
shape_of-w c =
    c.loop-at.invariant.1

pub shape_of-out : goal.shape_of-out
shape_of-out c =
    c.loop-at.invariant.0.out_length

pub shape_of-lines : goal.shape_of-lines
shape_of-lines c =
    c.loop-at.invariant.0.lines_length

pub returns : goal.returns
returns c =
    let p = c.requires in all_so_far _ _ _ _ _ _ _ _ _ _ _ c.loop-at.invariant.0 (omega (arith, c.loop-at-test.false)) (omega (arith, p.0, p.1)) p.0
