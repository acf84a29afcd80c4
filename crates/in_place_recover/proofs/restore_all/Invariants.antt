-- `in_place_recover::restore_all` meets its contract. The loop's invariant: the processes passed so far are as they are after the recovery, the others as they were, and
-- the lent list has the pairs of what is deleted.
-- Assumes nothing.
use Rattle.std.specs.Prelude.{◌≡◌, ◌+◌, ◌-◌, ◌≤◌, ◌<◌}
use Rattle.laws.specs.Basics.{refl, sym, ◌∙◌, arith, length, sets, rules}
use Rattle.whole_runs.specs.Outcomes.{pairs}
use Rattle.words.specs.Layout.{count_of}
use Rattle.words.proofs.{View.fits_size, ViewSound.sound_words}
use Rattle.in_place_recover.specs.Recovering.{losses_then, Restored}
use Rattle.in_place_recover.proofs.Restoring.{losses_few, none_restored, none_listed, none_counted, still_size, still_disk, still_restorable, still_room, one_more, more_listed, more_counted}
use Rattle.in_place_recover.proofs.restore_all.Given as goal

abbrev pub invariant-loop-p : goal.invariant-loop-p
invariant-loop-p l = (l.p ≤ l.n) × Restored l.initial.w l.pasts l.owns l.p l.w × (length l.deleted ≡ length l.initial.deleted) × (l.deleted ≡ sets l.initial.deleted 0 (pairs (losses_then l.initial.w l.pasts l.owns l.p))) × (l.gone ≡ length (losses_then l.initial.w l.pasts l.owns l.p))
