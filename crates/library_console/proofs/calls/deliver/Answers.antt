-- `library_console::calls::deliver` meets its contract: it is denied, or it is the call in place.
-- Assumes nothing.
use Rattle.laws.specs.Basics.{refl, rules}
use Rattle.words.specs.Layout.{run_of}
use Rattle.in_place.proofs.Leaving.{same_words}
use Rattle.library_console.proofs.{Asking.deliver_by}
use Rattle.library_console.proofs.calls.deliver.Goals as goal

pub returns-then-denied : goal.returns-then-denied
returns-then-denied c =
    let a = c.args in rw (deliver_by a.role a.owned (run_of a.w.now) a.m a.deleted.now c.is_message_denied-denied.ensures, c.if-denied.true) (record { w_after = refl; answer_value = refl; rose_value = refl; deleted_after = refl; w_unchanged = λ why q. refl; leaves = same_words a.w.now })

pub returns : goal.returns
returns c =
    let a = c.args in let g = c.deliver.ensures in rw (deliver_by a.role a.owned (run_of a.w.now) a.m a.deleted.now c.is_message_denied-denied.ensures, c.if-denied.false) (record { w_after = g.w_after; answer_value = g.answer_value; rose_value = g.rose_value; deleted_after = g.deleted_after; w_unchanged = c.deliver.ensures.w_unchanged; leaves = c.deliver.ensures.leaves })
