-- `in_place_recover::restore_all` meets its contract. The loop's invariant: the processes passed so far are as they are after the recovery, the others as they were, and
-- the lent list has the pairs of what is deleted.
-- Assumes nothing.
use Rattle.std.specs.Prelude.{◌≡◌, ◌+◌, ◌-◌, ◌≤◌, ◌<◌}
use Rattle.laws.specs.Basics.{refl, sym, ◌∙◌, arith, length, sets, rules}
use Rattle.whole_runs.specs.Outcomes.{pairs}
use Rattle.words.specs.Layout.{count_of}
use Rattle.words.proofs.{View.fits_size, ViewSound.sound_words}
use Rattle.in_place_recover.specs.Recovering.{losses_then, Restored}
use Rattle.in_place_recover.proofs.Restoring.{losses_few, none_restored, none_listed, none_counted, still_size, still_disk, still_restorable, still_room, one_more, more_listed, more_counted}
use Rattle.in_place_recover.proofs.restore_all.Goals as goal

pub loop-p-init : goal.loop-p-init
loop-p-init c =
    let w = c.args.w.now in (search rules, none_restored w c.requires.0 c.args.pasts.now c.args.owns, refl, none_listed w c.requires.0 c.args.pasts.now c.args.owns c.args.deleted.now, none_counted w c.requires.0 c.args.pasts.now c.args.owns)

pub offset_bounds-pasts-p : goal.offset_bounds-pasts-p
offset_bounds-pasts-p c =
    let below : c.loop-p.p < count_of c.args.w.now = omega (arith, c.requires.1, c.loop-p-test.true) in
    let room : c.loop-p.p < 16 = omega (arith, below, (sound_words c.args.w.now c.requires.0).few) in
    let few = room in search rules

pub bounds-pasts-p : goal.bounds-pasts-p
bounds-pasts-p c =
    omega (arith, c.loop-p-test.true, c.requires.3.0)

pub overflow_cast-past : goal.overflow_cast-past
overflow_cast-past c =
    let small = c.shared_slice_known-in-loop-p-1.given c.loop-p.p in search (rules, small)

pub restore-less-requires : goal.restore-less-requires
restore-less-requires c =
    let below : c.loop-p.p < count_of c.args.w.now = omega (arith, c.requires.1, c.loop-p-test.true) in
    let room : c.loop-p.p < 16 = omega (arith, below, (sound_words c.args.w.now c.requires.0).few) in
    let w = c.args.w.now in let h = c.requires.0 in let l = c.loop-p in let lt = below in let disk = still_disk w h c.args.pasts.now c.args.owns l.p lt l.w l.invariant.1 in record {
      w_len = (still_size w h c.args.pasts.now c.args.owns l.p lt l.w l.invariant.1, room, disk.0, disk.1);
      restorable = still_restorable w h c.args.pasts.now c.args.owns l.p lt l.w l.invariant.1 (c.requires.3.1 l.p c.loop-p-test.true);
      p_in_bounds = (
        omega (arith, l.invariant.2, l.invariant.4, still_room w h c.args.pasts.now c.args.owns l.p lt l.w l.invariant.1 c.args.n (length c.args.deleted.now) c.requires.1 c.requires.2),
        omega (arith, l.invariant.4, losses_few w h c.args.pasts.now c.args.owns l.p (omega arith)),
      );
    }

pub overflow_add-gone : goal.overflow_add-gone
overflow_add-gone c =
    let below : c.loop-p.p < count_of c.args.w.now = omega (arith, c.requires.1, c.loop-p-test.true) in
    let w = c.args.w.now in let h = c.requires.0 in let l = c.loop-p in let lt = below in omega (arith, more_counted w h c.args.pasts.now c.args.owns l.p lt l.w l.invariant.1 l.gone _ l.invariant.4 c.restore-less.ensures.value, losses_few w h c.args.pasts.now c.args.owns (l.p + 1) (omega arith))

pub loop-p-preserved : goal.loop-p-preserved
loop-p-preserved c =
    let below : c.loop-p.p < count_of c.args.w.now = omega (arith, c.requires.1, c.loop-p-test.true) in
    let w = c.args.w.now in let h = c.requires.0 in let l = c.loop-p in let lt = below in let e = c.restore-less.ensures in (search rules, one_more w h c.args.pasts.now c.args.owns l.p lt l.w l.invariant.1 _ _ e.value e.moves, c.restore-less.auto.deleted ∙ l.invariant.2, more_listed w h c.args.pasts.now c.args.owns l.p lt l.w l.invariant.1 c.args.deleted.now l.deleted _ l.gone l.invariant.4 l.invariant.3 e.deleted_after, more_counted w h c.args.pasts.now c.args.owns l.p lt l.w l.invariant.1 l.gone _ l.invariant.4 e.value)

pub shape_of-w : goal.shape_of-w
shape_of-w c =
    fits_size c.loop-p.w c.loop-p.invariant.1.fit ∙ sym (sound_words c.args.w.now c.requires.0).size

pub returns : goal.returns
returns c =
    let l = c.loop-p in let e : l.p ≡ c.args.n = omega (arith, l.invariant.0) in record { restored = rw e at l.invariant.1; deleted_after = rw e at l.invariant.3; value = rw e at l.invariant.4 }
