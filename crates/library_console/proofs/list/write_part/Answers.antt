-- `library_console::list::write_part` meets its contract: the caller may not see the process, or all that it keeps is written.
-- Assumes nothing.
use Rattle.laws.specs.Basics.{sym, ◌∙◌, ap, arith, rules, not-true, not-false}
use Rattle.words.specs.Layout.{word}
use Rattle.words.proofs.ViewSound.{sound_words}
use Rattle.library_console.proofs.{Listing.unseen, Listing.seen}
use Rattle.library_console.proofs.list.write_part.Goals as goal

pub bounds-w-0 : goal.bounds-w-0
bounds-w-0 c =
    let size = (sound_words c.args.w.now c.requires.0).size in search rules

pub returns-then-not-seen : goal.returns-then-not-seen
returns-then-not-seen c =
    let a = c.args in let z = unseen a.role a.owned _ a.w.now a.p a.deleted.now _ (sym (rw c.number_of-n.ensures at c.is_entitled-seen.ensures) ∙ c.if-not-seen.true) in record { value = z.0; deleted_after = z.1 }

pub kept_count_at-kept_count_at-requires : goal.kept_count_at-kept_count_at-requires
kept_count_at-kept_count_at-requires c =
    omega (arith, c.requires.1, (sound_words c.args.w.now c.requires.0).few)

pub offset_bounds-w-kept_count_at : goal.offset_bounds-w-kept_count_at
offset_bounds-w-kept_count_at c =
    let h = sound_words c.args.w.now c.requires.0 in omega (arith, c.kept_count_at-kept_count_at.ensures, c.requires.1, h.few)

pub bounds-w-kept_count_at : goal.bounds-w-kept_count_at
bounds-w-kept_count_at c =
    let h = sound_words c.args.w.now c.requires.0 in omega (arith, c.kept_count_at-kept_count_at.ensures, c.requires.1, h.few, h.size)

pub write_kept-requires : goal.write_kept-requires
write_kept-requires c =
    let known = sound_words c.args.w.now c.requires.0 in let part = known.parts c.args.p c.requires.1 in let keptCount = c.number_of-kept_count.ensures ∙ ap (word c.args.w.now) c.kept_count_at-kept_count_at.ensures in (
      known.size,
      omega (arith, c.requires.1, known.few),
      omega (arith, keptCount, part.kept_count_most, known.few),
      omega (arith, keptCount, c.requires.3),
      λ k less. part.used k (omega (arith, keptCount, less)),
    )

pub returns : goal.returns
returns c =
    let a = c.args in let keptCount = c.number_of-kept_count.ensures ∙ ap (word a.w.now) c.kept_count_at-kept_count_at.ensures in let g = seen a.role a.owned _ a.w.now a.p a.deleted.now _ _ (sym (rw c.number_of-n.ensures at c.is_entitled-seen.ensures) ∙ c.if-not-seen.false) (rw keptCount at c.write_kept.ensures) in record { value = keptCount ∙ g.0; deleted_after = g.1 }
