-- `library_console::calls::start` meets its contract: it is denied and leaves the words, or it is the start in place.
-- Assumes nothing.
use Rattle.laws.specs.Basics.{refl, rules}
use Rattle.library_console.proofs.{Asking.start_by}
use Rattle.library_console.proofs.calls.start.Goals as goal

pub returns-then-denied : goal.returns-then-denied
returns-then-denied c =
    let a = c.args in let g = start_by a.role a.owned a.w.now a.n a.block_counts.now (c.is_denied-denied.ensures a.owned) in rw (g.0, g.1, c.if-denied.true) (record { value = refl; w_after = refl; w_after_2 = refl; clean = λ size clean. clean })

pub returns : goal.returns
returns c =
    let a = c.args in let g = start_by a.role a.owned a.w.now a.n a.block_counts.now (c.is_denied-denied.ensures a.owned) in let h = c.start.ensures in rw (g.0, g.1, c.if-denied.false) (record { value = h.value; w_after = h.w_after; w_after_2 = h.w_after_2; clean = λ size clean. h.clean size })
