-- `words_sound::is_balanced` meets its contract. Assumes nothing.
use Rattle.laws.specs.Basics.{rules}
use Rattle.words.specs.Layout.{wide4}
use Rattle.words_sound.proofs.{Judging.past, Judging.too_few, Judging.balanced_are}
use Rattle.words_sound.proofs.is_balanced.Goals as goal

pub returns-then-written-gt-MOST_BLOCKS : goal.returns-then-written-gt-MOST_BLOCKS
returns-then-written-gt-MOST_BLOCKS c =
    let a = c.args in past (wide4 a.w.now 4) a.kept (wide4 a.w.now 8) (rw c.wide4-written.ensures at c.if-written-gt-MOST_BLOCKS.true)

pub returns-then-written-deleted : goal.returns-then-written-deleted
returns-then-written-deleted c =
    let a = c.args in too_few (wide4 a.w.now 4) a.kept (wide4 a.w.now 8) (rw (c.wide4-written.ensures, c.wide4-deleted.ensures) at c.if-written-deleted.true)

pub returns : goal.returns
returns c =
    let a = c.args in balanced_are c.wide4-written.result c.wide4-deleted.result (wide4 a.w.now 4) (wide4 a.w.now 8) a.kept c.wide4-written.ensures c.wide4-deleted.ensures c.if-written-gt-MOST_BLOCKS.false c.if-written-deleted.false
