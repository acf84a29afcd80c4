-- `library_console::calls::recover` meets its contract: it is denied, or it is the call in place.
-- Assumes nothing.
use Rattle.laws.specs.Basics.{refl, rules}
use Rattle.words.specs.Layout.{run_of}
use Rattle.in_place.proofs.Leaving.{same_words}
use Rattle.library_console.proofs.{Asking.recover_by}
use Rattle.library_console.proofs.calls.recover.Goals as goal

pub returns-then-denied : goal.returns-then-denied
returns-then-denied c =
    let a = c.args in rw (recover_by a.role a.owned (run_of a.w.now) a.failed a.deleted.now a.line.now (c.is_denied-denied.ensures a.owned), c.if-denied.true) (record { w_after = refl; value = refl; deleted_after = refl; line_after = refl; w_unchanged = λ why q. refl; leaves = same_words a.w.now })

pub returns : goal.returns
returns c =
    let a = c.args in let g = c.recover.ensures in rw (recover_by a.role a.owned (run_of a.w.now) a.failed a.deleted.now a.line.now (c.is_denied-denied.ensures a.owned), c.if-denied.false) (record { w_after = g.w_after; value = g.value; deleted_after = g.deleted_after; line_after = g.line_after; w_unchanged = c.recover.ensures.w_unchanged; leaves = c.recover.ensures.leaves })
