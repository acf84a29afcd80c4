-- `library_console::calls::lose` meets its contract: it is denied, or it is the call in place.
-- Assumes nothing.
use Rattle.laws.specs.Basics.{refl, rules}
use Rattle.words.specs.Layout.{run_of}
use Rattle.in_place.proofs.Leaving.{same_words}
use Rattle.library_console.proofs.{Asking.lose_by}
use Rattle.library_console.proofs.calls.lose.Goals as goal

pub returns-then-denied : goal.returns-then-denied
returns-then-denied c =
    let a = c.args in rw (lose_by a.role a.owned (run_of a.w.now) a.m c.is_message_denied-denied.ensures, c.if-denied.true) (record { w_after = refl; value = refl; w_unchanged = λ why q. refl; leaves = same_words a.w.now })

pub returns : goal.returns
returns c =
    let a = c.args in let g = c.lose.ensures in rw (lose_by a.role a.owned (run_of a.w.now) a.m c.is_message_denied-denied.ensures, c.if-denied.false) (record { w_after = g.w_after; value = g.value; w_unchanged = g.w_unchanged; leaves = g.leaves })
