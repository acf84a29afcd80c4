-- `library_console::list::write_list` meets its contract. The loop's invariant: what is listed of the processes passed is written.
-- Assumes nothing.
use Rattle.std.specs.Prelude.{◌-◌, ◌*◌, ◌≤◌, ◌<◌}
use Rattle.laws.specs.Basics.{arith, length, rules}
use Rattle.words.specs.Layout.{count_of}
use Rattle.words.proofs.ViewSound.{sound_words}
use Rattle.library_console.proofs.Listing.{Listing, none_listed, row_room, count_few, sum_few, one_listed, all_listed}
use Rattle.library_console.proofs.list.write_list.Goals as goal

pub loop-p-init : goal.loop-p-init
loop-p-init c =
    let a = c.args in none_listed a.role a.owned (count_of a.w.now) a.w.now a.deleted.now

pub write_part-more-requires : goal.write_part-more-requires
write_part-more-requires c =
    let l = c.loop-p in let a = c.args in let h = sound_words a.w.now c.requires.0 in let below : l.p < count_of a.w.now = omega (arith, c.loop-p-test.true, c.requires.1) in
    let most = (h.parts l.p below).kept_count_most in let size : 2 * count_of a.w.now * count_of a.w.now ≤ length a.deleted.now = rw c.requires.1 at c.requires.2 in (
      c.requires.0,
      below,
      count_few a.role a.owned (count_of a.w.now) a.w.now a.deleted.now l.deleted l.count l.p l.invariant h.few below most,
      row_room a.role a.owned (count_of a.w.now) a.w.now a.deleted.now l.deleted l.count l.p l.invariant h.few below most size,
    )

pub overflow_add-count : goal.overflow_add-count
overflow_add-count c =
    let l = c.loop-p in let a = c.args in let h = sound_words a.w.now c.requires.0 in let below : l.p < count_of a.w.now = omega (arith, c.loop-p-test.true, c.requires.1) in
    let few = sum_few a.role a.owned (count_of a.w.now) a.w.now a.deleted.now l.deleted l.count l.p l.invariant h.few below (h.parts l.p below).kept_count_most _ c.write_part-more.ensures.value in search rules

pub loop-p-preserved : goal.loop-p-preserved
loop-p-preserved c =
    let l = c.loop-p in let a = c.args in let h = sound_words a.w.now c.requires.0 in let below : l.p < count_of a.w.now = omega (arith, c.loop-p-test.true, c.requires.1) in
    let most = (h.parts l.p below).kept_count_most in one_listed a.role a.owned (count_of a.w.now) a.w.now a.deleted.now l.deleted l.count l.p l.invariant h.few below most _ _
    c.write_part-more.ensures.value c.write_part-more.ensures.deleted_after c.write_part-more.auto.deleted

pub shape_of-deleted : goal.shape_of-deleted
shape_of-deleted c =
    c.loop-p.invariant.long

pub returns : goal.returns
returns c =
    let l = c.loop-p in let a = c.args in let z = all_listed a.role a.owned (count_of a.w.now) a.w.now a.deleted.now l.deleted l.count l.p (omega (arith, l.invariant.within, c.loop-p-test.false, c.requires.1)) l.invariant in record { value = z.0; deleted_after = z.1 }
