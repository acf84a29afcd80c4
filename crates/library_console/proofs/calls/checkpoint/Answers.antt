-- `library_console::calls::checkpoint` meets its contract: it is denied, or it is the call in place.
-- Assumes nothing.
use Rattle.laws.specs.Basics.{refl, rules}
use Rattle.words.specs.Layout.{run_of}
use Rattle.in_place.proofs.Leaving.{same_words}
use Rattle.library_console.proofs.{Asking.checkpoint_by}
use Rattle.library_console.proofs.calls.checkpoint.Goals as goal

pub returns-then-denied : goal.returns-then-denied
returns-then-denied c =
    let a = c.args in rw (checkpoint_by a.role a.owned (run_of a.w.now) a.i a.deleted.now c.is_process_denied-denied.ensures, c.if-denied.true) (record { w_after = refl; value = refl; deleted_after = refl; w_unchanged = λ why q. refl; leaves = same_words a.w.now })

pub returns : goal.returns
returns c =
    let a = c.args in let g = c.checkpoint.ensures in rw (checkpoint_by a.role a.owned (run_of a.w.now) a.i a.deleted.now c.is_process_denied-denied.ensures, c.if-denied.false) (record { w_after = g.w_after; value = g.value; deleted_after = g.deleted_after; w_unchanged = g.w_unchanged; leaves = g.leaves })
