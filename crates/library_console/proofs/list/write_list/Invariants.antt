-- `library_console::list::write_list` meets its contract. The loop's invariant: what is listed of the processes passed is written.
-- Assumes nothing.
use Rattle.std.specs.Prelude.{◌-◌, ◌*◌, ◌≤◌, ◌<◌}
use Rattle.laws.specs.Basics.{arith, length, rules}
use Rattle.words.specs.Layout.{count_of}
use Rattle.words.proofs.ViewSound.{sound_words}
use Rattle.library_console.proofs.Listing.{Listing, none_listed, row_room, count_few, sum_few, one_listed, all_listed}
use Rattle.library_console.proofs.list.write_list.Given as goal

abbrev pub invariant-loop-p : goal.invariant-loop-p
invariant-loop-p l = Listing l.role l.owned (count_of l.w) l.w l.initial.deleted l.deleted l.count l.p
