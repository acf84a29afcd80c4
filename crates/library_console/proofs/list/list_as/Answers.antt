-- `library_console::list::list_as` meets its contract: the table says no, it is refused with 2 or 3, or what the caller's processes keep is written.
-- Assumes nothing.
use Rattle.laws.specs.Basics.{ap, not, sym, ◌∙◌, arith, rules, ltb-false}
use Rattle.words.specs.Layout.{run_of}
use Rattle.words.proofs.ViewSound.{sound_words}
use Rattle.whole_runs.proofs.Unsound.{is_sound, is_unsound}
use Rattle.library_console.proofs.{Listing.list_denied, Listing.list_unsound, Listing.list_short, Listing.list_made}
use Rattle.library_console.proofs.list.list_as.Goals as goal

pub returns-then-not-allowed : goal.returns-then-not-allowed
returns-then-not-allowed c =
    let a = c.args in let z = list_denied a.role a.owned a.w.now a.deleted.now c.may-allowed.ensures (ap not c.if-not-allowed.true) in record { value = z.0; deleted_after = z.1 }

pub returns-then-not-sound : goal.returns-then-not-sound
returns-then-not-sound c =
    let a = c.args in let z = list_unsound a.role a.owned a.w.now a.deleted.now c.may-allowed.ensures (ap not c.if-not-allowed.false) (is_unsound (run_of a.w.now) c.is_sound-sound.ensures (ap not c.if-not-sound.true)) in record { value = z.0; deleted_after = z.1 }

pub bounds-w-0 : goal.bounds-w-0
bounds-w-0 c =
    let w = c.args.w.now in let size = (sound_words w (is_sound (run_of w) c.is_sound-sound.ensures (ap not c.if-not-sound.false))).size in search rules

pub are_deletions_short-short-requires : goal.are_deletions_short-short-requires
are_deletions_short-short-requires c =
    let w = c.args.w.now in omega (arith, c.number_of-n.ensures, (sound_words w (is_sound (run_of w) c.is_sound-sound.ensures (ap not c.if-not-sound.false))).few)

pub returns-then-short : goal.returns-then-short
returns-then-short c =
    let a = c.args in let z = list_short a.role a.owned a.w.now a.deleted.now c.may-allowed.ensures (ap not c.if-not-allowed.false) (is_sound (run_of a.w.now) c.is_sound-sound.ensures (ap not c.if-not-sound.false))
    (sym (rw c.number_of-n.ensures at c.are_deletions_short-short.ensures) ∙ c.if-short.true) in record { value = z.0; deleted_after = z.1 }

pub write_list-count-requires : goal.write_list-count-requires
write_list-count-requires c =
    let w = c.args.w.now in (is_sound (run_of w) c.is_sound-sound.ensures (ap not c.if-not-sound.false), c.number_of-n.ensures, ltb-false _ _ (sym c.are_deletions_short-short.ensures ∙ c.if-short.false))

pub returns : goal.returns
returns c =
    let a = c.args in let z = list_made a.role a.owned a.w.now a.deleted.now c.may-allowed.ensures (ap not c.if-not-allowed.false) (is_sound (run_of a.w.now) c.is_sound-sound.ensures (ap not c.if-not-sound.false))
    (sym (rw c.number_of-n.ensures at c.are_deletions_short-short.ensures) ∙ c.if-short.false) _ _ c.write_list-count.ensures.value c.write_list-count.ensures.deleted_after in record { value = z.0; deleted_after = z.1 }
